-- Each step keeps the rule of the accord.
use Rattle.std.proofs.Common.{◌≡◌, ◌≢◌, ℕ, true, false, true≢false, List, [], ◌∷◌, ◌++◌}
use Rattle.std.proofs.Common.{length, set, sym, refl, ap, ◌∙◌}
use mathlib.Core.Option.{some}
use lib.ListN.{get_elem?}
use Rattle.images.specs.Gathers.{GatherState}
use Rattle.group_commit.specs.declared.accord.Sides.{Sides}
use Rattle.images.specs.Gathers.{nothing_gathered}
use Rattle.group_commit.specs.Agreeing.{near_side, far_side, both_sides, no_side, Fits, Agreed}
use Rattle.group_commit.proofs.Seats.{Each, each_one, each_set, each_push, other_view}

off : {X : Type 0} → false ≡ true → X
off e = absurd (true≢false (sym e))

silent : (nearest farthest : ℕ) (gather : GatherState) (seat : ℕ) →
    Fits nearest farthest gather seat no_side
silent nearest farthest gather seat = record { near = λ p. off p; far = λ p. off p }

pub begins : Agreed (both_sides (near_side nothing_gathered) (far_side nothing_gathered) ∷ [])
begins = record {
  nearest = 0;
  farthest = 0;
  gather = nothing_gathered;
  fits = each_one (Fits 0 0 nothing_gathered)
      (both_sides (near_side nothing_gathered) (far_side nothing_gathered))
      record { near = λ _. (refl, refl); far = λ _. (refl, refl) };
}

module _ (views : List Sides) (h : Agreed views) (seat : ℕ) (v : Sides)
    (at : get_elem? views seat ≡ some v) where
  -- one seat is cut into both ends; what each of them knows may change with it
  pub parts : (next : GatherState → GatherState) → v.near ≡ true → v.far ≡ true →
      Agreed (set views seat (near_side (next v.by_near)) ++ far_side (next v.by_far) ∷ [])
  parts next a b =
      let out = (h.fits seat v at).near a in
      let into = (h.fits seat v at).far b in
      let left = near_side (next v.by_near) in
      let kept = set views seat left in
      let P : ℕ → Sides → Type 0 = Fits h.nearest (length kept) (next h.gather) in
      record {
        nearest = h.nearest;
        farthest = length kept;
        gather = next h.gather;
        fits = each_push P kept (far_side (next v.by_far))
            (each_set P views seat left
            (λ j u other e. record {
              near = λ p. absurd (other (((h.fits j u e).near p).0 ∙ sym out.0));
              far = λ p. absurd (other (((h.fits j u e).far p).0 ∙ sym into.0));
            })
            record { near = λ _. (out.0, ap next out.1); far = λ p. off p })
            record { near = λ p. off p; far = λ _. (refl, ap next into.1) };
      }

  pub leaves : v.far ≡ true → Agreed (set views seat no_side ++ far_side v.by_far ∷ [])
  leaves b =
      let mine = (h.fits seat v at).far b in
      let kept = set views seat no_side in
      let P : ℕ → Sides → Type 0 = Fits h.nearest (length kept) h.gather in
      record {
        nearest = h.nearest;
        farthest = length kept;
        gather = h.gather;
        fits = each_push P kept (far_side v.by_far)
            (each_set P views seat no_side
            (λ j u other e. record {
              near = (h.fits j u e).near;
              far = λ p. absurd (other (((h.fits j u e).far p).0 ∙ sym mine.0));
            })
            (silent h.nearest (length kept) h.gather seat))
            record { near = λ p. off p; far = λ _. (refl, mine.1) };
      }

  pub joins : (other : ℕ) (u : Sides) → v.near ≡ true → u.far ≡ true →
      other ≢ seat → get_elem? (set views seat (both_sides v u)) other ≡ some u
      → Agreed (set (set views seat (both_sides v u)) other no_side)
  joins other u a b apart there =
      let both = both_sides v u in
      let out = (h.fits seat v at).near a in
      let into = (h.fits other u (other_view views seat other both u apart there)).far b in
      let P : ℕ → Sides → Type 0 = Fits h.nearest seat h.gather in
      let Now : ℕ → Sides → Type 0 = λ j y. j ≢ other → P j y in
      let now : Each Now (set views seat both) = each_set Now views seat both
      (λ j y _ e outside. record {
        near = (h.fits j y e).near;
        far = λ p. absurd (outside (((h.fits j y e).far p).0 ∙ sym into.0));
      })
      (λ _. record { near = λ _. out; far = λ _. (refl, into.1) }) in
      record {
        nearest = h.nearest;
        farthest = seat;
        gather = h.gather;
        fits = each_set P (set views seat both) other no_side
            (λ j y outside e. now j y e outside) (silent h.nearest seat h.gather other);
      }

  -- both ends together know the same
  pub compares : v.near ≡ true → v.far ≡ true →
      Agreed (set views seat v) × (v.by_near ≡ v.by_far)
  compares a b = (
    record {
      nearest = h.nearest;
      farthest = h.farthest;
      gather = h.gather;
      fits = each_set (Fits h.nearest h.farthest h.gather) views seat v
          (λ j u _ e. h.fits j u e) (h.fits seat v at);
    },
    ((h.fits seat v at).near a).1 ∙ sym ((h.fits seat v at).far b).1,
  )
