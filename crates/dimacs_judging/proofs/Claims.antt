-- The flow of entries, and the tests of the entries.
use Rattle.std.proofs.Common.{◌≡◌, inl, inr, ℕ, ◌<◌, List, length, take, count_by, ℤ, refl, sym, ap, ◌∙◌, arith}
use Rattle.std.proofs.{lemmas.Bool.{cases_lt}, lemmas.List.FromFn.{length-map-range_with_len}}
use Rattle.dimacs_network.specs.{declared.network.ArcView.{ArcView}, Arcs.{joins}}
use Rattle.dimacs_claims.specs.declared.place.Entry.{Entry}
use Rattle.dimacs_records.specs.declared.reasons.Reason.{Reason}
use Rattle.dimacs_records.specs.declared.reasons.Reason.TheVariants.{UnknownArc, ArcTwice}
use Rattle.dimacs_judging.specs.{declared.verdict.Where.TheVariants.{Solution}, Tests.{Clear}}
use Rattle.dimacs_judging.specs.Claims.{is_between, claimed_of, claimed_flow, HasArc, Carries, EntryFails, entry_at, entry_row}
use Rattle.dimacs_judging.proofs.Firsts.{OneWay}

-- ---- the flow of entries
pub length-claimed_flow : (arcs : List ArcView) (entries : List Entry) → length (claimed_flow arcs entries) ≡ length arcs
length-claimed_flow arcs entries = length-map-range_with_len (claimed_of arcs entries) 0 (length arcs)

pub length-carried : (arcs : List ArcView) (entries : List Entry) (x : List ℤ) → Carries arcs entries x → length x ≡ length arcs
length-carried arcs entries x carries = ap length carries.amounts ∙ length-claimed_flow arcs entries

-- ---- entries that pass carry a flow
module _ (arcs : List ArcView) (entries : List Entry) (clear : Clear (entry_row arcs entries)) where
  has_arc : (k : ℕ) → k < length entries → HasArc arcs (take k entries) (entry_at entries k)
  has_arc k inside =
      let e = entry_at entries k in
      elim (cases_lt (count_by (is_between e.tail e.head) (take k entries)) (count_by (joins e.tail e.head) arcs)) [
        | inl fewer ↦ fewer
        | inr as_many ↦ elim (cases_lt 0 (count_by (joins e.tail e.head) arcs)) [
          | inl some ↦ absurd (clear k (Solution e.line 0) ArcTwice (inside, refl, inr (refl, omega (arith, some), as_many)))
          | inr none ↦ absurd (clear k (Solution e.line 0) UnknownArc (inside, refl, inl (refl, λ known. absurd (omega (arith, none, known)))))
        ]
      ]

  pub claims_carried : (x : List ℤ) → x ≡ claimed_flow arcs entries → Carries arcs entries x
  claims_carried x is = record { each_has_arc = has_arc; amounts = is }

-- ---- entries that carry a flow pass
pub carries_clear : (arcs : List ArcView) (entries : List Entry) (x : List ℤ) → Carries arcs entries x → Clear (entry_row arcs entries)
carries_clear arcs entries x carries k place reason f =
    let fewer = carries.each_has_arc k f.0 in
    elim f.2 [ inl u ↦ u.1 (omega (arith, fewer)) | inr t ↦ absurd (omega (arith, fewer, t.2)) ]

-- ---- an entry fails for only one reason
one_entry : (arcs : List ArcView) (before : List Entry) (e : Entry) (r s : Reason) → EntryFails arcs before e r → EntryFails arcs before e s → r ≡ s
one_entry arcs before e r s (inl f) (inl g) = f.0 ∙ sym g.0
one_entry arcs before e r s (inl f) (inr g) = absurd (f.1 g.1)
one_entry arcs before e r s (inr f) (inl g) = absurd (g.1 f.1)
one_entry arcs before e r s (inr f) (inr g) = f.0 ∙ sym g.0

pub entry_one_way : (arcs : List ArcView) (entries : List Entry) → OneWay (entry_row arcs entries)
entry_one_way arcs entries k p q r s f g = (f.1 ∙ sym g.1, one_entry arcs (take k entries) (entry_at entries k) r s f.2 g.2)
