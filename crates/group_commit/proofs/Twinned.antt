-- Each step keeps the rule of a twin.
use Rattle.std.proofs.Common.{◌≡◌, ◌≢◌, ℕ, true, false, true≢false, List, [], ◌∷◌, ◌++◌}
use Rattle.std.proofs.Common.{length, set, sym, refl, ap, ◌∙◌}
use mathlib.Core.Option.{some}
use lib.ListN.{get_elem?}
use Rattle.group_commit.specs.declared.twin.Sides.{Sides}
use Rattle.group_commit.specs.Twins.{near_side, far_side, both_sides, no_side, Fits, Agreed, added}
use Rattle.group_commit.proofs.Seats.{Each, each_one, each_set, each_push, other_view}

off : {X : Type 0} → false ≡ true → X
off e = absurd (true≢false (sym e))

silent : {T : Type 0} → (nearest farthest : ℕ) (list : List T) (seat : ℕ) →
    Fits nearest farthest list seat no_side
silent nearest farthest list seat = record { near = λ p. off p; far = λ p. off p }

pub begins : {T : Type 0} → Agreed {T = T} (both_sides (near_side []) (far_side []) ∷ [])
begins {T} = record {
  nearest = 0;
  farthest = 0;
  list = [];
  fits = each_one (Fits {T = T} 0 0 [])
      (both_sides (near_side []) (far_side []))
      record { near = λ _. (refl, refl); far = λ _. (refl, refl) };
}

module _ {T : Type 0} (views : List (Sides T)) (h : Agreed views) (seat : ℕ) (v : Sides T)
    (at : get_elem? views seat ≡ some v) where
  -- one seat is cut into both ends; what each of them knows may change with it
  pub parts : (next : List T → List T) → v.near ≡ true → v.far ≡ true →
      Agreed (set views seat (near_side (next v.by_near)) ++ far_side (next v.by_far) ∷ [])
  parts next a b =
      let out = (h.fits seat v at).near a in
      let into = (h.fits seat v at).far b in
      let left = near_side (next v.by_near) in
      let kept = set views seat left in
      let P : ℕ → Sides T → Type 0 = Fits h.nearest (length kept) (next h.list) in
      record {
        nearest = h.nearest;
        farthest = length kept;
        list = next h.list;
        fits = each_push P kept (far_side (next v.by_far))
            (each_set P views seat left
            (λ j u other e. record {
              near = λ p. absurd (other (((h.fits j u e).near p).0 ∙ sym out.0));
              far = λ p. absurd (other (((h.fits j u e).far p).0 ∙ sym into.0));
            })
            record { near = λ _. (out.0, ap next out.1); far = λ p. off p })
            record { near = λ p. off p; far = λ _. (refl, ap next into.1) };
      }

  pub leaves : v.far ≡ true → Agreed (set views seat no_side ++ far_side v.by_far ∷ [])
  leaves b =
      let mine = (h.fits seat v at).far b in
      let kept = set views seat no_side in
      let P : ℕ → Sides T → Type 0 = Fits h.nearest (length kept) h.list in
      record {
        nearest = h.nearest;
        farthest = length kept;
        list = h.list;
        fits = each_push P kept (far_side v.by_far)
            (each_set P views seat no_side
            (λ j u other e. record {
              near = (h.fits j u e).near;
              far = λ p. absurd (other (((h.fits j u e).far p).0 ∙ sym mine.0));
            })
            (silent h.nearest (length kept) h.list seat))
            record { near = λ p. off p; far = λ _. (refl, mine.1) };
      }

  pub joins : (other : ℕ) (u : Sides T) → v.near ≡ true → u.far ≡ true →
      other ≢ seat → get_elem? (set views seat (both_sides v u)) other ≡ some u
      → Agreed (set (set views seat (both_sides v u)) other no_side)
  joins other u a b apart there =
      let both = both_sides v u in
      let out = (h.fits seat v at).near a in
      let into = (h.fits other u (other_view views seat other both u apart there)).far b in
      let P : ℕ → Sides T → Type 0 = Fits h.nearest seat h.list in
      let Now : ℕ → Sides T → Type 0 = λ j y. j ≢ other → P j y in
      let now : Each Now (set views seat both) = each_set Now views seat both
      (λ j y _ e outside. record {
        near = (h.fits j y e).near;
        far = λ p. absurd (outside (((h.fits j y e).far p).0 ∙ sym into.0));
      })
      (λ _. record { near = λ _. out; far = λ _. (refl, into.1) }) in
      record {
        nearest = h.nearest;
        farthest = seat;
        list = h.list;
        fits = each_set P (set views seat both) other no_side
            (λ j y outside e. now j y e outside) (silent h.nearest seat h.list other);
      }

  -- both ends together know the same
  pub compares : v.near ≡ true → v.far ≡ true →
      Agreed (set views seat v) × (v.by_near ≡ v.by_far)
  compares a b = (
    record {
      nearest = h.nearest;
      farthest = h.farthest;
      list = h.list;
      fits = each_set (Fits h.nearest h.farthest h.list) views seat v
          (λ j u _ e. h.fits j u e) (h.fits seat v at);
    },
    ((h.fits seat v at).near a).1 ∙ sym ((h.fits seat v at).far b).1,
  )

  -- both ends together know one touch more
  pub adds : (t : T) → v.near ≡ true → v.far ≡ true → Agreed (set views seat (added t v))
  adds t a b =
      let out = (h.fits seat v at).near a in
      let into = (h.fits seat v at).far b in
      let P : ℕ → Sides T → Type 0 = Fits h.nearest h.farthest (h.list ++ t ∷ []) in
      record {
        nearest = h.nearest;
        farthest = h.farthest;
        list = h.list ++ t ∷ [];
        fits = each_set P views seat (added t v)
            (λ j u other e. record {
              near = λ p. absurd (other (((h.fits j u e).near p).0 ∙ sym out.0));
              far = λ p. absurd (other (((h.fits j u e).far p).0 ∙ sym into.0));
            })
            record {
              near = λ _. (out.0, ap (λ l. l ++ t ∷ []) out.1);
              far = λ _. (into.0, ap (λ l. l ++ t ∷ []) into.1);
            };
      }
