-- Whose needs come from where, behind each step of the machine.
use Rattle.std.proofs.Common.{◌≡◌, ◌≢◌, ℕ, ◌==◌, not, cond, Bool, true, false, ne_eqb, ◌⊎◌, inl}
use Rattle.std.proofs.Common.{inr}
use Rattle.std.proofs.Common.{⊎_elim, List, [], ◌∷◌, ◌++◌, Contains, sym, ◌∙◌, ap, subst}
use Rattle.std.specs.FinMap as maps
use Rattle.calls.specs.declared.need.Need.{Need}
use Rattle.calls.specs.Transactions.{Event, Entry, Asked, others}
use Rattle.abstract_locks.specs.declared.table.Hold.{Hold}
use Rattle.abstract_locks.specs.Holds.{hold, IsAdded}
use Rattle.undo_log.specs.Logs.{Statuses, Lives, Falls, fallen}
use Rattle.undo_log.specs.Entries.{IsNewestCall}
use Rattle.steps.specs.Machine.{State, IsLeft}
use Rattle.steps.proofs.LiveNumbers.{fallen_is, lives_more, lives_fewer, falls_more, falls_fresh}
use Rattle.steps.proofs.LiveNumbers.{falls_fewer}
use Rattle.undo_log.specs.Entries.{place_of}
use Rattle.steps.specs.Wholes.{HasEntry, IsOwed}

-- ---- entries
more : (n at : ℕ) (xs ys : List (ℕ × Entry)) → HasEntry n at xs → HasEntry n at (xs ++ ys)
more n at [] ys h = absurd h
more n at (x ∷ xs) ys h = ⊎_elim (λ a. inl a) (λ b. inr (more n at xs ys b)) h

last : (n at : ℕ) (xs ys : List (ℕ × Entry)) → HasEntry n at ys → HasEntry n at (xs ++ ys)
last n at [] ys h = h
last n at (x ∷ xs) ys h = inr (last n at xs ys h)

among_others : (n at m : ℕ) (xs : List (ℕ × Entry)) → (n ≡ m → ⊥) → HasEntry n at xs →
    HasEntry n at (others m xs)
among_others n at m [] other h = absurd h
among_others n at m (x ∷ xs) other h = ⊎_elim
    (λ (a : (x.0 ≡ n) × (place_of x.1 ≡ at)).
    subst (λ b. HasEntry n at (cond (not b) (x ∷ others m xs) (others m xs)))
    (sym (ne_eqb x.0 m (λ e. other (sym a.0 ∙ e)))) (inl a))
    (λ b. kept (x.0 == m) (among_others n at m xs other b)) h
  where
    kept : (b : Bool) → HasEntry n at (others m xs) →
        HasEntry n at (cond (not b) (x ∷ others m xs) (others m xs))
    kept true h = h
    kept false h = inr h

without_one : (n at m : ℕ) (e : Entry) (xs ys : List (ℕ × Entry)) → (n ≡ m → ⊥) →
    HasEntry n at (xs ++ (m, e) ∷ ys) → HasEntry n at (xs ++ ys)
without_one n at m e [] ys other h = ⊎_elim (λ a. absurd (other (sym a.0))) (λ b. b) h
without_one n at m e (x ∷ xs) ys other h =
    ⊎_elim (λ a. inl a) (λ b. inr (without_one n at m e xs ys other b)) h

-- ---- rows
module _ {S : Type 0} (s : State S) (o : IsOwed s) where
  -- one entry more, under the need that it has
  pub noted : (n : ℕ) (e : Entry) (need : Need) (t : State S) →
      IsAdded s.holds t.holds (hold n (place_of e) need) → Lives s.live n → t.live ≡ s.live →
      t.entries ≡ s.entries ++ (n, e) ∷ [] → IsOwed t
  noted n e need t added lives live entries = record {
    live = λ h there. subst (λ (l : Statuses). Lives l h.owner) (sym live)
        (⊎_elim (λ old. o.live h old)
        (λ new. subst (λ (x : Hold). Lives s.live x.owner) (sym new) lives) ((added h).0 there));
    owed = λ h there standing.
        let up : Falls s.live h.owner → ⊥ = λ f. standing
        (subst (λ (l : Statuses). Falls l h.owner) (sym live) f) in
        subst (HasEntry h.owner h.at) (sym entries)
        (⊎_elim (λ old. more h.owner h.at s.entries ((n, e) ∷ []) (o.owed h old up))
        (λ new. last h.owner h.at s.entries ((n, e) ∷ [])
        (inl (ap (λ (x : Hold). x.owner) (sym new), ap (λ (x : Hold). x.at) (sym new))))
        ((added h).0 there));
  }

  -- all that the number has goes
  pub left : (u t : State S) (n : ℕ) → u.holds ≡ s.holds → u.live ≡ s.live → u.entries ≡ s.entries →
      IsLeft u n t → IsOwed t
  left u t n holds live entries gone =
      let old : (h : Hold) → Contains t.holds h → Contains s.holds h × (h.owner ≢ n) =
      λ h there. let r = (gone.holds h).0 there in (subst (λ l. Contains l h) holds r.0, r.1) in
      let now : t.live ≡ maps.remove s.live n = ap (λ (v : State S). v.live) gone.is ∙
      ap (λ l. maps.remove l n) live in
      record {
        live = λ h there. let r = old h there in
            subst (λ (l : Statuses). Lives l h.owner) (sym now)
            ((lives_fewer s.live n h.owner).0 (o.live h r.0, r.1));
        owed = λ h there standing. let r = old h there in
            let up : Falls s.live h.owner → ⊥ = λ f. standing
            (subst (λ (l : Statuses). Falls l h.owner) (sym now)
            ((falls_fewer s.live n h.owner).0 (f, r.1))) in
            subst (HasEntry h.owner h.at) (sym (ap (λ (v : State S). v.entries) gone.is ∙
            ap (others n) entries)) (among_others h.owner h.at n s.entries r.1 (o.owed h r.0 up));
      }

  -- the number falls; its entries may have changed
  pub falls : (t : State S) (n : ℕ) → Lives s.live n → t.holds ≡ s.holds →
      t.live ≡ fallen s.live n →
      ((m at : ℕ) → (m ≡ n → ⊥) → HasEntry m at s.entries → HasEntry m at t.entries) → IsOwed t
  falls t n lives holds live kept =
      let now : t.live ≡ maps.insert s.live n true = live ∙ fallen_is s.live n lives in
      record {
        live = λ h there. subst (λ (l : Statuses). Lives l h.owner) (sym now)
            ((lives_more s.live n true h.owner).0
            (inr (o.live h (subst (λ l. Contains l h) holds there))));
        owed = λ h there standing.
            let down : (n ≡ h.owner) ⊎ Falls s.live h.owner → ⊥ = λ f. standing
            (subst (λ (l : Statuses). Falls l h.owner) (sym now)
            ((falls_more s.live n h.owner).0 f)) in
            kept h.owner h.at (λ e. down (inl (sym e)))
            (o.owed h (subst (λ l. Contains l h) holds there) (λ f. down (inr f)));
      }

  -- the newest call goes
  pub popped : (n : ℕ) (e : Event) (rest : List (ℕ × Entry)) → IsNewestCall n s.entries e rest →
      (m at : ℕ) → (m ≡ n → ⊥) → HasEntry m at s.entries → HasEntry m at rest
  popped n e rest newest m at other h = subst (HasEntry m at) (sym newest.rest_is)
      (without_one m at n (Asked e) newest.before newest.after other
      (subst (HasEntry m at) newest.is h))

  -- nothing of these three changes
  pub still : (t : State S) → t.holds ≡ s.holds → t.live ≡ s.live → t.entries ≡ s.entries → IsOwed t
  still t holds live entries = record {
    live = λ h there. subst (λ (l : Statuses). Lives l h.owner) (sym live)
        (o.live h (subst (λ l. Contains l h) holds there));
    owed = λ h there standing. subst (HasEntry h.owner h.at) (sym entries)
        (o.owed h (subst (λ l. Contains l h) holds there)
        (λ f. standing (subst (λ (l : Statuses). Falls l h.owner) (sym live) f)));
  }

  -- a number begins
  pub begun : (n : ℕ) (t : State S) → (Lives s.live n → ⊥) → t.holds ≡ s.holds →
      t.live ≡ maps.insert s.live n false → t.entries ≡ s.entries → IsOwed t
  begun n t fresh holds live entries = record {
    live = λ h there. subst (λ (l : Statuses). Lives l h.owner) (sym live)
        ((lives_more s.live n false h.owner).0
        (inr (o.live h (subst (λ l. Contains l h) holds there))));
    owed = λ h there standing. subst (HasEntry h.owner h.at) (sym entries)
        (o.owed h (subst (λ l. Contains l h) holds there)
        (λ f. standing (subst (λ (l : Statuses). Falls l h.owner) (sym live)
        ((falls_fresh s.live n fresh h.owner).0 f))));
  }
