-- The piles of the queue.
use Rattle.std.proofs.Common.{◌≡◌, ℕ, zero, suc, ◌+◌, ◌≤◌, ◌<◌, List, [], ◌∷◌, ◌++◌, length, set, get_or, take, refl, sym, ap, subst, ◌∙◌, arith, append_assoc, Result, Ok, Err}
use Rattle.std.proofs.lemmas.List.{get_or_default, length-map, map-append, map_push, take_more}
use Rattle.std.proofs.lemmas.List.Elements.{All-append, All-cons, All-head, All-nil, All-push, All-tail, All-weaker}
use Rattle.std.proofs.lemmas.List.Sorted.{All-permutation, IsPermutation-append_comm, IsPermutation-append_left, IsPermutation-append_right, IsPermutation-map, IsPermutation-middle, IsPermutation-sym, IsPermutation-to_front, IsPermutation-trans, length_permutation}
use Rattle.std.specs.{Prelude.{All, IsPermutation, OnErr, OnOk, remove}, declared.cmp.Reverse.{Reverse}}
use Rattle.dimacs_solve.specs.{declared.piles.Walk.{Walk}, declared.piles.Pile.{Pile}}
use Rattle.dimacs_solve.specs.inside.Frontiers.{AreBeyond, AreWithin, ArePiles, IsPile, IsPlace, IsSplit, in_piles, walk_in, walks_in}

shift : {X : Type 0} (xs ys zs : List X) → IsPermutation (xs ++ (ys ++ zs)) (ys ++ (xs ++ zs))
shift xs ys zs = rw (← append_assoc xs ys zs, ← append_assoc ys xs zs) (IsPermutation-append_left zs _ _ (IsPermutation-append_comm xs ys))

all_right : {X : Type 0} (P : X → Type 0) (xs ys : List X) → All P (xs ++ ys) → All P ys
all_right P [] ys all = all
all_right P (x ∷ xs) ys all = all_right P xs ys (All-tail P x (xs ++ ys) all)

within_more : (a b : ℕ) (ws : List (Walk ℕ)) → a ≤ b → AreWithin a ws → AreWithin b ws
within_more a b ws le = All-weaker (λ (w : Walk ℕ). w.dist ≤ a) (λ (w : Walk ℕ). w.dist ≤ b) (λ (w : Walk ℕ) (h : w.dist ≤ a). omega (arith, h, le)) ws

beyond_less : (a b : ℕ) (ws : List (Walk ℕ)) → a ≤ b → AreBeyond b ws → AreBeyond a ws
beyond_less a b ws le = All-weaker (λ (w : Walk ℕ). b < w.dist) (λ (w : Walk ℕ). a < w.dist) (λ (w : Walk ℕ) (h : b < w.dist). omega (arith, h, le)) ws

module _ {D : Type 0} (value : D → ℕ) where
  -- a pile with one more walk, and with its ceiling raised
  pile_put : (old new : Pile D) (w : Walk ℕ) → value old.ceiling ≤ value new.ceiling → w.dist ≤ value new.ceiling → IsPermutation (w ∷ walks_in value old.walks.items) (walks_in value new.walks.items) → (floor : ℕ) → floor < w.dist → IsPile value floor old → IsPile value floor new
  pile_put old new w rises reaches moved floor above is = record {
    some = omega (arith, length_permutation _ _ moved, length-map new.walks.items (walk_in value));
    rises = omega (arith, is.rises, rises);
    beyond = All-permutation (λ (v : Walk ℕ). floor < v.dist) _ _ moved (All-cons (λ (v : Walk ℕ). floor < v.dist) w _ above is.beyond);
    within = All-permutation (λ (v : Walk ℕ). v.dist ≤ value new.ceiling) _ _ moved (All-cons (λ (v : Walk ℕ). v.dist ≤ value new.ceiling) w _ reaches (within_more _ _ _ rises is.within));
  }

  pile_raised : (old new : Pile D) → value old.ceiling ≤ value new.ceiling → new.walks.items ≡ old.walks.items → (floor : ℕ) → IsPile value floor old → IsPile value floor new
  pile_raised old new rises same floor is = record {
    some = rw same is.some;
    rises = omega (arith, is.rises, rises);
    beyond = rw same is.beyond;
    within = rw same (within_more _ _ _ rises is.within);
  }

  pub pile_after : {E : Type 0} (old new : Pile D) (w : Walk ℕ) (outcome : Result (Unit {0}) E) → value old.ceiling ≤ value new.ceiling → OnOk outcome (w.dist ≤ value new.ceiling) → OnErr outcome (new.walks.items ≡ old.walks.items) → OnOk outcome (IsPermutation (w ∷ walks_in value old.walks.items) (walks_in value new.walks.items))
      → (floor : ℕ) → floor < w.dist → IsPile value floor old → IsPile value floor new
  pile_after old new w (Ok x) rises reaches same moved = pile_put old new w rises reaches moved
  pile_after old new w (Err e) rises reaches same moved = λ floor above. pile_raised old new rises same floor

  same_floor : (a b : ℕ) (ps : List (Pile D)) → (0 < length ps → b ≡ a) → ArePiles value a ps → ArePiles value b ps
  same_floor a b [] same are = tt
  same_floor a b (p ∷ ps) same are = rw (same (omega arith)) are

  -- a pile changed at the place of a walk of length d
  piles_put : (floor d at : ℕ) (ps : List (Pile D)) (new : Pile D) → at < length ps → (at ≡ 0 → floor < d) → ((k : ℕ) (e : Pile D) → k + 1 ≡ at → value (get_or ps k e).ceiling < d) → (at + 1 < length ps → value new.ceiling ≡ value (get_or ps at new).ceiling)
      → ((f : ℕ) → f < d → IsPile value f (get_or ps at new) → IsPile value f new) → ArePiles value floor ps → ArePiles value floor (set ps at new)
  piles_put floor d at [] new inside first above kept put are = absurd (omega (arith, inside))
  piles_put floor d zero (p ∷ ps) new inside first above kept put are = (put floor (first refl) are.0, same_floor (value p.ceiling) (value new.ceiling) ps (λ h. kept (omega (arith, h))) are.1)
  piles_put floor d (suc at) (p ∷ ps) new inside first above kept put are =
      (are.0, piles_put (value p.ceiling) d at ps new (omega (arith, inside)) (λ h. above 0 new (omega (arith, h))) (λ k e h. above (suc k) e (omega (arith, h))) (λ h. kept (omega (arith, h))) put are.1)

  in_piles_put : (ps : List (Pile D)) (at : ℕ) (new : Pile D) (w : Walk ℕ) → at < length ps → IsPermutation (w ∷ walks_in value (get_or ps at new).walks.items) (walks_in value new.walks.items) → IsPermutation (w ∷ in_piles value ps) (in_piles value (set ps at new))
  in_piles_put [] at new w inside moved = absurd (omega (arith, inside))
  in_piles_put (p ∷ ps) zero new w inside moved = IsPermutation-append_left (in_piles value ps) _ _ moved
  in_piles_put (p ∷ ps) (suc at) new w inside moved =
      IsPermutation-trans _ _ _ (shift (w ∷ []) (walks_in value p.walks.items) (in_piles value ps)) (IsPermutation-append_right (walks_in value p.walks.items) _ _ (in_piles_put ps at new w (omega (arith, inside)) moved))

  -- the pile at its place takes a walk
  pub piles_after : {E : Type 0} (floor : ℕ) (ps : List (Pile D)) (at : ℕ) (old new : Pile D) (w : Walk ℕ) (outcome : Result (Unit {0}) E) → IsPlace value w.dist ps at → old ≡ get_or ps at old
      → value old.ceiling ≤ value new.ceiling → OnOk outcome (w.dist ≤ value new.ceiling) → (w.dist ≤ value old.ceiling → new.ceiling ≡ old.ceiling) → OnErr outcome (new.walks.items ≡ old.walks.items) → OnOk outcome (IsPermutation (w ∷ walks_in value old.walks.items) (walks_in value new.walks.items))
      → floor < w.dist → ArePiles value floor ps → ArePiles value floor (set ps at new)
  piles_after floor ps at old new w outcome place here rises reaches kept same moved above =
      let is : get_or ps at new ≡ old = get_or_default ps at new old place.inside ∙ sym here in
      let keeps : at + 1 < length ps → value new.ceiling ≡ value (get_or ps at new).ceiling = λ more. rw is (ap value (kept (subst (λ (p : Pile D). w.dist ≤ value p.ceiling) is (place.reaches new more)))) in
      piles_put floor w.dist at ps new place.inside (λ first. above) place.above keeps (λ f h pile. pile_after old new w outcome rises reaches same moved f h (subst (IsPile value f) is pile))

  pub in_piles_after : {E : Type 0} (ps : List (Pile D)) (at : ℕ) (old new : Pile D) (w : Walk ℕ) (outcome : Result (Unit {0}) E) → at < length ps → old ≡ get_or ps at old → OnOk outcome (IsPermutation (w ∷ walks_in value old.walks.items) (walks_in value new.walks.items)) → OnOk outcome (IsPermutation (w ∷ in_piles value ps) (in_piles value (set ps at new)))
  in_piles_after ps at old new w (Ok x) inside here moved = in_piles_put ps at new w inside (rw (get_or_default ps at new old inside ∙ sym here) moved)
  in_piles_after ps at old new w (Err e) inside here moved = tt

  -- the nearest pile is taken out
  pub first_pile : (floor : ℕ) (ps : List (Pile D)) (p : Pile D) → 0 < length ps → p ≡ get_or ps 0 p → ArePiles value floor ps → IsPile value floor p × ArePiles value (value p.ceiling) (remove ps 0) × (in_piles value ps ≡ walks_in value p.walks.items ++ in_piles value (remove ps 0))
  first_pile floor [] p some here are = absurd (omega (arith, some))
  first_pile floor (q ∷ ps) p some here are = rw here (are.0, are.1, refl)

  -- no walk in the piles is nearer than their floor
  pub all_beyond : (floor : ℕ) (ps : List (Pile D)) → ArePiles value floor ps → AreBeyond floor (in_piles value ps)
  all_beyond floor [] are = All-nil (λ (w : Walk ℕ). floor < w.dist)
  all_beyond floor (p ∷ ps) are = All-append (λ (w : Walk ℕ). floor < w.dist) _ _ are.0.beyond (beyond_less floor (value p.ceiling) _ are.0.rises (all_beyond (value p.ceiling) ps are.1))

  pub put_behind : (near : List (Walk ℕ)) (w : Walk ℕ) (old new : List (Walk ℕ)) → IsPermutation (w ∷ old) new → IsPermutation (w ∷ (near ++ old)) (near ++ new)
  put_behind near w old new moved = IsPermutation-trans _ _ _ (shift (w ∷ []) near old) (IsPermutation-append_right near _ _ moved)

  -- one more walk is dealt out
  pub split_closer : (bound i : ℕ) (walks closer farther : List (Reverse (Walk D))) (w d : Reverse (Walk D)) → i < length walks → w ≡ get_or walks i d → value w.0.dist ≤ bound → IsSplit value bound (take i walks) closer farther → IsSplit value bound (take (i + 1) walks) (closer ++ w ∷ []) farther
  split_closer bound i walks closer farther w d inside here short is = record {
    moved = rw (take_more walks i d inside, ← here, append_assoc closer (w ∷ []) farther) (IsPermutation-trans _ _ _ (IsPermutation-to_front (take i walks) w) (IsPermutation-trans _ _ _ (IsPermutation-append_right (w ∷ []) _ _ is.moved) (IsPermutation-sym _ _ (IsPermutation-middle closer w farther))));
    within = rw (map_push (walk_in value) closer w) (All-push (λ (v : Walk ℕ). v.dist ≤ bound) _ _ is.within short);
    beyond = is.beyond;
  }

  pub split_farther : (bound i : ℕ) (walks closer farther : List (Reverse (Walk D))) (w d : Reverse (Walk D)) → i < length walks → w ≡ get_or walks i d → bound < value w.0.dist → IsSplit value bound (take i walks) closer farther → IsSplit value bound (take (i + 1) walks) closer (farther ++ w ∷ [])
  split_farther bound i walks closer farther w d inside here long is = record {
    moved = rw (take_more walks i d inside, ← here, ← append_assoc closer farther (w ∷ [])) (IsPermutation-append_left (w ∷ []) _ _ is.moved);
    within = is.within;
    beyond = rw (map_push (walk_in value) farther w) (All-push (λ (v : Walk ℕ). bound < v.dist) _ _ is.beyond long);
  }

  below_bound : (a b : ℕ) (ws : List (Reverse (Walk D))) → 0 < length ws → AreBeyond a (walks_in value ws) → AreWithin b (walks_in value ws) → a ≤ b
  below_bound a b [] some beyond within = absurd (omega (arith, some))
  below_bound a b (w ∷ ws) some beyond within = omega (arith, All-head (λ (v : Walk ℕ). a < v.dist) _ _ beyond, All-head (λ (v : Walk ℕ). v.dist ≤ b) _ _ within)

  -- the farther walks of a heap as a pile
  pub pile_split : (middle bound : ℕ) (walks closer : List (Reverse (Walk D))) (p : Pile D) → value p.ceiling ≡ bound → 0 < length p.walks.items → IsSplit value middle walks closer p.walks.items → AreWithin bound (walks_in value walks) → IsPile value middle p
  pile_split middle bound walks closer p at some is within =
      let all : AreWithin bound (walks_in value closer ++ walks_in value p.walks.items) = rw (← map-append (walk_in value) closer p.walks.items) (All-permutation (λ (v : Walk ℕ). v.dist ≤ bound) _ _ (IsPermutation-map (walk_in value) _ _ is.moved) within) in
      let far : AreWithin bound (walks_in value p.walks.items) = all_right (λ (v : Walk ℕ). v.dist ≤ bound) (walks_in value closer) _ all in
      record {
        some = some;
        rises = rw at (below_bound middle bound p.walks.items some is.beyond far);
        beyond = is.beyond;
        within = rw at far;
      }

  pub walks_split : (bound : ℕ) (walks closer farther near : List (Reverse (Walk D))) (rest : List (Walk ℕ)) → IsSplit value bound walks closer farther → IsPermutation closer near → IsPermutation (walks_in value walks ++ rest) (walks_in value near ++ (walks_in value farther ++ rest))
  walks_split bound walks closer farther near rest is moved =
      rw (← append_assoc (walks_in value near) (walks_in value farther) rest, ← map-append (walk_in value) near farther) (IsPermutation-append_left rest _ _ (IsPermutation-map (walk_in value) _ _ (IsPermutation-trans _ _ _ is.moved (IsPermutation-append_left farther _ _ moved))))
