-- A state with no live transaction is at rest.
use Rattle.std.proofs.Common.{◌≡◌, ℕ, List, [], ◌∷◌, refl, sym, ◌∙◌, ap, subst, arith}
use Rattle.std.specs.Prelude.{Contains}
use Rattle.std.specs.FinMap as maps
use Rattle.abstract_locks.specs.declared.table.Hold.{Hold}
use Rattle.boosted.proofs.Each.{weaker}
use Rattle.undo_log.specs.Logs.{Lives}
use Rattle.steps.specs.Machines.{resting}
use Rattle.steps.specs.Sound.{IsSound}
use Rattle.steps.specs.Theory.Rules.{Has}
use Rattle.steps.proofs.Theory.Undo as undo
use Rattle.steps.proofs.Steps as steps
use Rattle.steps.proofs.LiveNumbers.{nobody}
use Rattle.replay.specs.Steps.{State}
use Rattle.replay.proofs.CatalogLaws.{laws}
use Rattle.catalog.specs.Meaning.{catalog_meaning, catalog_making}

none_in : {X : Type 0} (xs : List X) → ((x : X) → Contains xs x → ⊥) → xs ≡ []
none_in [] none = refl
none_in (x ∷ xs) none = absurd (none x (0, omega arith, refl))

module _ (s : State) (sound : IsSound catalog_meaning catalog_making s)
    (idle : s.live ≡ maps.empty) where
  nobody_lives : (n : ℕ) → Has sound.machine.live n → ⊥
  nobody_lives n has = nobody n (subst (λ m. Lives m n) idle ((sound.shows.live n).0 has))

  nothing_held : s.holds ≡ []
  nothing_held = none_in s.holds (λ h inside.
      let none : sound.machine.needs ≡ [] =
      undo.nothing sound.machine.needs
      (weaker (λ (k : Hold). Has sound.machine.live k.owner) (λ k. ⊥)
      (λ k has. nobody_lives k.owner has) sound.machine.needs sound.sound.holders) in
      subst (λ ks. Has ks h → ⊥) (sym none) (λ has. has) ((sound.shows.needs h).1 inside))

  pub at_rest : s ≡ resting s.format s.now s.wear
  at_rest =
      let none = steps.none_live catalog_meaning catalog_making laws.rules s sound sound.content
      idle sound.settled in
      ap (λ l. let t : State = record {
        now = s.now;
        live = l;
        entries = s.entries;
        holds = s.holds;
        wear = s.wear;
        format = s.format;
      } in t) idle
      ∙ ap (λ es. let t : State = record {
        now = s.now;
        live = maps.empty;
        entries = es;
        holds = s.holds;
        wear = s.wear;
        format = s.format;
      } in t) none.0
      ∙ ap (λ hs. let t : State = record {
        now = s.now;
        live = maps.empty;
        entries = [];
        holds = hs;
        wear = s.wear;
        format = s.format;
      } in t) nothing_held
