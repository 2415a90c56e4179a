-- The first item of a part of a list is the first of the whole list.
use Rattle.std.proofs.Common.{◌∷◌, ◌++◌, List, get_or, ap, refl, sym, ◌∙◌, append_assoc, arith}
use Rattle.std.proofs.lemmas.List.Elements.{All-append, Contains-append_left, Contains-append_right, Contains-get_or}
use Rattle.std.specs.List.{All, Contains}
use Rattle.dimacs_records.specs.Order.{FirstOf}

-- the first item is in the list
pub first_listed : {X : Type 0} (P : X → Type 0) (all : List X) (x : X) → FirstOf P all x → Contains all x
first_listed P all x h = rw h.all_is (Contains-append_right h.before (x ∷ h.after) x (0, omega arith, refl))

-- the same after other items without the property
pub first_after : {X : Type 0} (P : X → Type 0) (front all : List X) (x : X) → All (λ y. ¬ P y) front → FirstOf P all x → FirstOf P (front ++ all) x
first_after P front all x none h = record {
  before = front ++ h.before;
  after = h.after;
  all_is = ap (λ t. front ++ t) h.all_is ∙ sym (append_assoc front h.before (x ∷ h.after));
  none_before = All-append (λ y. ¬ P y) front h.before none h.none_before;
  holds = h.holds;
}

-- the same before other items, and for a property that x has and that is no wider within the list
pub first_before : {X : Type 0} (P Q : X → Type 0) (all back : List X) (x : X)
    → ((y : X) → Contains all y → Q y → P y) → (P x → Q x) → FirstOf P all x → FirstOf Q (all ++ back) x
first_before P Q all back x narrow holds h = record {
  before = h.before;
  after = h.after ++ back;
  all_is = ap (λ t. t ++ back) h.all_is ∙ append_assoc h.before (x ∷ h.after) back;
  none_before = λ k d below q.
      let y = get_or h.before k d in
      h.none_before k d below (narrow y (rw h.all_is (Contains-append_left h.before (x ∷ h.after) y (Contains-get_or h.before k d below))) q);
  holds = holds h.holds;
}
