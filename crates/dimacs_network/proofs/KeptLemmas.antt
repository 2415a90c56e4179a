-- Arcs that are stored in two parts.
use Rattle.std.proofs.Common.{◌≡◌, ℕ, ◌<◌, ◌∷◌, ◌++◌, [], List, length, map, get_or, slice_get, Some, ap, ◌∙◌, refl, arith}
use Rattle.std.proofs.{lemmas.List.{length-map, map-append}, lemmas.Option.{slice_get-get_or, slice_get-map}}
use Rattle.std.proofs.lemmas.Slice.Zip.{length-zip, get_or-zip}
use Rattle.std.specs.{List.{zip}, Prelude.{option_map}}
use Rattle.dimacs_network.specs.{declared.network.ArcView.{ArcView}, KeptArcs.{arcs_of}}

zip-push : {F B : Type 0} (fs : List F) (bs : List B) (f : F) (b : B) → length bs ≡ length fs → zip (fs ++ f ∷ []) (bs ++ b ∷ []) ≡ zip fs bs ++ (f, b) ∷ []
zip-push [] [] f b same = refl
zip-push [] (c ∷ bs) f b same = absurd (omega (arith, same))
zip-push (e ∷ fs) [] f b same = absurd (omega (arith, same))
zip-push (e ∷ fs) (c ∷ bs) f b same = ap (λ pairs. (e, c) ∷ pairs) (zip-push fs bs f b (omega (arith, same)))

pub kept_none : {F B : Type 0} (arc_of : F → B → ArcView) → arcs_of arc_of [] [] ≡ []
unfolding arcs_of
kept_none arc_of = refl

module _ {F B : Type 0} (arc_of : F → B → ArcView) (fs : List F) (bs : List B) (same : length bs ≡ length fs) where
  pub kept_long : length (arcs_of arc_of fs bs) ≡ length fs
  unfolding arcs_of
  kept_long = length-map (zip fs bs) (λ parts. arc_of parts.0 parts.1) ∙ (length-zip fs bs ∙ omega (arith, same))

  pub kept_get : (i : ℕ) (f : F) (b : B) → i < length fs → slice_get (arcs_of arc_of fs bs) i ≡ Some (arc_of (get_or fs i f) (get_or bs i b))
  unfolding arcs_of
  kept_get i f b inside =
      let whole : F × B → ArcView = λ parts. arc_of parts.0 parts.1 in
      let there : slice_get (zip fs bs) i ≡ Some (get_or (zip fs bs) i (f, b)) = slice_get-get_or (zip fs bs) i (f, b) (omega (arith, inside, same, length-zip fs bs)) in
      slice_get-map whole (zip fs bs) i ∙ ap (option_map whole) (there ∙ ap (λ parts. Some parts) (get_or-zip fs bs i (f, b) inside (omega (arith, same, inside))))

  pub kept_push : (f : F) (b : B) → arcs_of arc_of (fs ++ f ∷ []) (bs ++ b ∷ []) ≡ arcs_of arc_of fs bs ++ arc_of f b ∷ []
  unfolding arcs_of
  kept_push f b = ap (map (λ parts. arc_of parts.0 parts.1)) (zip-push fs bs f b same) ∙ map-append (λ parts. arc_of parts.0 parts.1) (zip fs bs) ((f, b) ∷ [])
