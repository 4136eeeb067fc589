use Rattle.std.proofs.Common.{◌≡◌, subst, sym, true≢false, arith}
use Rattle.boost_main.proofs.ScriptClients.{HaveLinesBelow, none_yet, one_more, no_more, all_told}
use Rattle.boost_main.proofs.script_work.clients_of.Goals.{then-has_lines+in_ok-push, else-has_lines}
use Rattle.boost_main.proofs.script_work.clients_of.Goals as goal

pub loop-client-init : goal.loop-client-init
loop-client-init c =
    rw c.new-clients.ensures.items
    (none_yet c.args.lines.now)

pub loop-client-preserved : goal.loop-client-preserved
loop-client-preserved c = elim c.if-has_lines.branch [
  | then-has_lines+in_ok-push w ↦
      rw (w.clients-is, w.in_ok-push.ensures.items)
      (one_more c.loop-client.client c.loop-client.clients.items c.args.lines.now
      c.loop-client.invariant c.loop-client.auto.client
      (c.has_lines.ensures.0 w.if-has_lines.true))
  | else-has_lines w ↦
      rw w.clients-is
      (no_more c.loop-client.client c.loop-client.clients.items c.args.lines.now
      c.loop-client.invariant (λ has. true≢false (sym (w.if-has_lines.ensures.1 has))))
]

pub returns-clause-clients : goal.returns-clause-clients
returns-clause-clients c =
    let ended = c.loop-client-test.false in
    let within = c.loop-client.auto.client-end in
    let last : c.loop-client.client ≡ 65 = omega arith in
    all_told c.loop-client.clients.items c.args.lines.now
    (subst (λ n. HaveLinesBelow n c.loop-client.clients.items c.args.lines.now) last
    c.loop-client.invariant)
