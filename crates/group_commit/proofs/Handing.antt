-- Each move keeps the rule of the hand-off.
use Rattle.std.proofs.Common.{◌≡◌, ◌≢◌, ℕ, true, false, true≢false, List, [], ◌∷◌, ◌++◌, length}
use Rattle.std.proofs.Common.{set, sym, refl, ap, ◌∙◌, append_assoc, length-append, arith}
use Rattle.crossbeam_queue.specs.Fifo.{Pushes, Pops, Forks, Merges, Learns}
use Rattle.records.specs.declared.block.Block.{Block}
use Rattle.images.specs.Gathers.{GatherState}
use Rattle.group_commit.specs.declared.handoff.Log.{Log}
use Rattle.group_commit.specs.Orders.{AreInTransit}
use Rattle.group_commit.specs.Transit.{sender, receiver, united, nobody, Fits, Ordered}
use Rattle.group_commit.proofs.Seats.{Each, each_one, each_set, each_push, other_view}

off : {X : Type 0} → false ≡ true → X
off e = absurd (true≢false (sym e))

silent : (writer reader : ℕ) (sent received : List Block) (noted : List GatherState) (seat : ℕ) →
    Fits writer reader sent received noted seat nobody
silent writer reader sent received noted seat =
    record { sends = λ p. off p; receives = λ p. off p }

pub begins : Ordered [] (united (sender [] []) (receiver [] []) ∷ [])
begins = record {
  writer = 0;
  reader = 0;
  sent = [];
  received = [];
  noted = [];
  order = record { order = refl; few = omega arith };
  fits = each_one (Fits 0 0 [] [] []) (united (sender [] []) (receiver [] []))
      record { sends = λ _. (refl, refl, refl); receives = λ _. (refl, refl, refl) };
}

pub sends : (seat : ℕ) (v : Log) (x : Block) → v ≡ sender v.sent v.noted →
    Pushes Ordered 4 seat v x (λ w. w ≡ sender (v.sent ++ x ∷ []) v.noted)
sends seat v x is items views room h at =
    let w : Log = sender (v.sent ++ x ∷ []) v.noted in
    let mine = (h.fits seat v at).sends (ap (λ (u : Log). u.sends) is) in
    let sent = h.sent ++ x ∷ [] in (
      w,
      record {
        writer = h.writer;
        reader = h.reader;
        sent = sent;
        received = h.received;
        noted = h.noted;
        order = record {
          order = ap (λ l. l ++ x ∷ []) h.order.order ∙ append_assoc h.received items (x ∷ []);
          few = let long = length-append items (x ∷ []) in omega arith;
        };
        fits = each_set (Fits h.writer h.reader sent h.received h.noted) views seat w
            (λ j u other e. record {
              sends = λ p. absurd (other (((h.fits j u e).sends p).0 ∙ sym mine.0));
              receives = (h.fits j u e).receives;
            })
            record {
              sends = λ _. (mine.0, ap (λ l. l ++ x ∷ []) mine.1, mine.2);
              receives = λ p. off p;
            };
      },
      refl,
    )

pub receives : (seat : ℕ) (v : Log) → v ≡ receiver v.received v.heard →
    Pops Ordered seat v (λ x w. w ≡ receiver (v.received ++ x ∷ []) v.heard)
receives seat v is x items views h at =
    let w : Log = receiver (v.received ++ x ∷ []) v.heard in
    let mine = (h.fits seat v at).receives (ap (λ (u : Log). u.receives) is) in
    let received = h.received ++ x ∷ [] in (
      w,
      record {
        writer = h.writer;
        reader = h.reader;
        sent = h.sent;
        received = received;
        noted = h.noted;
        order = record {
          order = h.order.order ∙ sym (append_assoc h.received (x ∷ []) items);
          few = let f = h.order.few in omega arith;
        };
        fits = each_set (Fits h.writer h.reader h.sent received h.noted) views seat w
            (λ j u other e. record {
              sends = (h.fits j u e).sends;
              receives = λ p. absurd (other (((h.fits j u e).receives p).0 ∙ sym mine.0));
            })
            record {
              sends = λ p. off p;
              receives = λ _. (mine.0, ap (λ l. l ++ x ∷ []) mine.1, mine.2);
            };
      },
      refl,
    )

-- a sender learns that what is in transit comes last in what it sent
pub shows_sender : (seat : ℕ) (v : Log) → v ≡ sender v.sent v.noted →
    Learns Ordered seat v (λ transit. (received : List Block) ×
    AreInTransit v.sent received transit)
shows_sender seat v is items views h at =
    let mine = (h.fits seat v at).sends (ap (λ (u : Log). u.sends) is) in
    (h.received, record { order = mine.1 ∙ h.order.order; few = h.order.few })

-- a receiver learns that what is in transit comes behind what it received
pub shows_receiver : (seat : ℕ) (v : Log) → v ≡ receiver v.received v.heard →
    Learns Ordered seat v (λ transit. (sent : List Block) × AreInTransit sent v.received transit)
shows_receiver seat v is items views h at =
    let mine = (h.fits seat v at).receives (ap (λ (u : Log). u.receives) is) in (
      h.sent,
      record { order = h.order.order ∙ ap (λ l. l ++ items) (sym mine.1); few = h.order.few },
    )

-- one end is cut into the sender's and the receiver's; what both have noted may change with it
pub parts : (noting : List GatherState → List GatherState) (seat : ℕ) (v : Log) → v.sends ≡ true →
    v.receives ≡ true
    → Forks Ordered seat v (sender v.sent (noting v.noted)) (receiver v.received (noting v.heard))
parts noting seat v a b items views h at =
    let out = (h.fits seat v at).sends a in
    let into = (h.fits seat v at).receives b in
    let left : Log = sender v.sent (noting v.noted) in
    let right : Log = receiver v.received (noting v.heard) in
    let kept = set views seat left in
    let P : ℕ → Log → Type 0 =
    Fits h.writer (length kept) h.sent h.received (noting h.noted) in
    record {
      writer = h.writer;
      reader = length kept;
      sent = h.sent;
      received = h.received;
      noted = noting h.noted;
      order = h.order;
      fits = each_push P kept right
          (each_set P views seat left
          (λ j u other e. record {
            sends = λ p. absurd (other (((h.fits j u e).sends p).0 ∙ sym out.0));
            receives = λ p. absurd (other (((h.fits j u e).receives p).0 ∙ sym into.0));
          })
          record { sends = λ _. (out.0, out.1, ap noting out.2); receives = λ p. off p })
          record { sends = λ p. off p; receives = λ _. (refl, into.1, ap noting into.2) };
    }

pub leaves : (seat : ℕ) (v : Log) → v ≡ receiver v.received v.heard →
    Forks Ordered seat v nobody v
leaves seat v is items views h at =
    let mine = (h.fits seat v at).receives (ap (λ (u : Log). u.receives) is) in
    let kept = set views seat nobody in
    let P : ℕ → Log → Type 0 = Fits h.writer (length kept) h.sent h.received h.noted in
    record {
      writer = h.writer;
      reader = length kept;
      sent = h.sent;
      received = h.received;
      noted = h.noted;
      order = h.order;
      fits = each_push P kept v
          (each_set P views seat nobody
          (λ j u other e. record {
            sends = (h.fits j u e).sends;
            receives = λ p. absurd (other (((h.fits j u e).receives p).0 ∙ sym mine.0));
          })
          (silent h.writer (length kept) h.sent h.received h.noted seat))
          record {
            sends = λ p. off (sym (ap (λ (u : Log). u.sends) is) ∙ p);
            receives = λ _. (refl, mine.1, mine.2);
          };
    }

pub joins : (seat : ℕ) (v : Log) (other : ℕ) (u : Log) → v.sends ≡ true → u.receives ≡ true →
    Merges Ordered seat v other u (united v u) nobody
joins seat v other u a b items views h at apart there =
    let out = (h.fits seat v at).sends a in
    let into = (h.fits other u (other_view views seat other (united v u) u apart there)).receives
    b in
    let P : ℕ → Log → Type 0 = Fits h.writer seat h.sent h.received h.noted in
    let Now : ℕ → Log → Type 0 = λ j y. j ≢ other → P j y in
    let now : Each Now (set views seat (united v u)) = each_set Now views seat (united v u)
    (λ j y _ e outside. record {
      sends = (h.fits j y e).sends;
      receives = λ p. absurd (outside (((h.fits j y e).receives p).0 ∙ sym into.0));
    })
    (λ _. record { sends = λ _. out; receives = λ _. (refl, into.1, into.2) }) in
    record {
      writer = h.writer;
      reader = seat;
      sent = h.sent;
      received = h.received;
      noted = h.noted;
      order = h.order;
      fits = each_set P (set views seat (united v u)) other nobody
          (λ j y outside e. now j y e outside)
          (silent h.writer seat h.sent h.received h.noted other);
    }

-- both ends together know what is in transit, and have noted the same
pub shows_both : (seat : ℕ) (v : Log) → v.sends ≡ true → v.receives ≡ true →
    Learns Ordered seat v
    (λ transit. (v.noted ≡ v.heard) × AreInTransit v.sent v.received transit)
shows_both seat v a b items views h at =
    let out = (h.fits seat v at).sends a in
    let into = (h.fits seat v at).receives b in (
      out.2 ∙ sym into.2,
      record {
        order = out.1 ∙ (h.order.order ∙ ap (λ l. l ++ items) (sym into.1));
        few = h.order.few;
      },
    )
