-- Positions in a list.
use Rattle.std.proofs.Common.{◌≡◌, ◌∙◌, ◌∷◌, ◌++◌, [], List, length, map, refl, ap, arith, length-append, All}
use Rattle.std.proofs.lemmas.List.Elements.{All-contains, Contains-append_right}

-- two items of one list: they are the same one, or one comes earlier
pub data TwoPlaces {X : Type 0} (before before' : List X) (x x' : X) : Type 0 where
  same : before ≡ before' → x ≡ x' → TwoPlaces before before' x x'
  sooner : (rest : List X) → before' ≡ before ++ x ∷ rest → TwoPlaces before before' x x'
  later : (rest : List X) → before ≡ before' ++ x' ∷ rest → TwoPlaces before before' x x'

pub two_places : {X : Type 0} (before before' after after' : List X) (x x' : X) → before ++ x ∷ after ≡ before' ++ x' ∷ after' → TwoPlaces before before' x x'
two_places [] [] after after' x x' e = same refl (cc)
two_places [] (b ∷ bs) after after' x x' e = sooner bs (cc)
two_places (b ∷ bs) [] after after' x x' e = later bs (cc)
two_places (b ∷ bs) (c ∷ cs) after after' x x' e =
    let head : b ≡ c = cc in
    elim (two_places bs cs after after' x x' (cc)) [
      | same before_is x_is ↦ same (cc) x_is
      | sooner rest longer ↦ sooner rest (cc)
      | later rest longer ↦ later rest (cc)
    ]

-- the image of a list, split at one item
pub record ImageAt {A B : Type 0} (f : A → B) (xs : List A) (before : List B) (y : B) : Type 0 where
  pub front : List A
  pub x : A
  pub back : List A
  pub xs_are : xs ≡ front ++ x ∷ back
  pub before_is : before ≡ map f front
  pub y_is : y ≡ f x

pub image_at : {A B : Type 0} (f : A → B) (xs : List A) (before after : List B) (y : B) → map f xs ≡ before ++ y ∷ after → ImageAt f xs before y
image_at f [] before after y e = absurd (omega (arith, ap length e, length-append before (y ∷ after)))
image_at f (x ∷ xs) [] after y e = record { front = []; x = x; back = xs; xs_are = refl; before_is = refl; y_is = cc }
image_at f (x ∷ xs) (b ∷ bs) after y e =
    let rest = image_at f xs bs after y (cc) in
    let first : b ≡ f x = cc in
    record { front = x ∷ rest.front; x = rest.x; back = rest.back; xs_are = ap (λ t. x ∷ t) rest.xs_are; before_is = ap (λ t. t ∷ bs) first ∙ ap (λ ts. f x ∷ ts) rest.before_is; y_is = rest.y_is }

-- what holds of all items holds of this one
pub All-at : {A : Type 0} (P : A → Type 0) (xs front back : List A) (x : A) → xs ≡ front ++ x ∷ back → All P xs → P x
All-at P xs front back x e all = All-contains P xs x all (rw e (Contains-append_right front (x ∷ back) x (0, omega arith, refl)))
