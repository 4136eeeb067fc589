use Rattle.std.proofs.Common.{◌≡◌, ◌∙◌, [], ◌∷◌, ◌++◌, length, take, ap, subst, refl, rules, arith}
use Rattle.std.proofs.lemmas.List.{take_all}
use Rattle.std.proofs.lemmas.Result.{err_from_is_err_and}
use Rattle.std.proofs.lemmas.Iterator.Adapters.{YieldsList-from_vec}
use Rattle.std.proofs.lemmas.Iterator.Consumers.{YieldsList-turn, YieldsList-end}
use Rattle.talks.specs.Requests.{CarriesOut}
use Rattle.talks.proofs.RequestLemmas.{answers_plays, played_on, lines_more, one_line_more}
use Rattle.talks.proofs.player.Player.play_lines.Goals as goal

pub loop-number-init : goal.loop-number-init
loop-number-init g c = (([], refl), refl, (refl, refl))

pub loop-number-preserved : goal.loop-number-preserved
loop-number-preserved g c =
    let now = c.loop-number.self in
    let next = c.answer-response.new.self in
    let so_far = c.loop-number.invariant in
    let turn = YieldsList-turn (YieldsList-from_vec {s = c.into_iter-number-iterator.result}
    c.args.lines.items (search rules) (search rules)) c.loop-number.yielded
    c.loop-number.number-iterator c.loop-number.yielded_by c.next.result c.next.new.self
    c.in-Some.field-0 c.in-Some.is c.next.ensures.steps in (
      played_on g.D.Disk c.args.self.now.world now.world next.world so_far.0
          (answers_plays g.D.Disk now.clients next.clients now.world next.world
          c.in-Some.field-0.what c.answer-response.result c.answer-response.ensures),
      lines_more c.args.lines.items c.loop-number.yielded c.in-Some.field-0 so_far.1 turn.0 turn.1,
      one_line_more g.D.Disk c.args.self.now.clients now.clients next.clients c.args.self.now.world
          now.world next.world c.loop-number.yielded c.in-Some.field-0 c.answer-response.result
          so_far.2
          c.answer-response.ensures,
    )

pub returns-in_err-write_line-clause-plays : goal.returns-in_err-write_line-clause-plays
returns-in_err-write_line-clause-plays g c =
    let now = c.loop-number.self in
    let next = c.answer-response.new.self in
    played_on g.D.Disk c.args.self.now.world now.world next.world c.loop-number.invariant.0
    (answers_plays g.D.Disk now.clients next.clients now.world next.world c.in-Some.field-0.what
    c.answer-response.result c.answer-response.ensures)

pub returns-in_err-write_line-clause-lines : goal.returns-in_err-write_line-clause-lines
returns-in_err-write_line-clause-lines g c =
    let p = err_from_is_err_and c.from_residual.result c.from_residual.ensures.1 in
    let now = c.loop-number.self in
    let next = c.answer-response.new.self in
    let so_far = c.loop-number.invariant in
    let turn = YieldsList-turn (YieldsList-from_vec {s = c.into_iter-number-iterator.result}
    c.args.lines.items (search rules) (search rules)) c.loop-number.yielded
    c.loop-number.number-iterator c.loop-number.yielded_by c.next.result c.next.new.self
    c.in-Some.field-0 c.in-Some.is c.next.ensures.steps in
    let lines = lines_more c.args.lines.items c.loop-number.yielded c.in-Some.field-0 so_far.1
    turn.0 turn.1 in
    let done = one_line_more g.D.Disk c.args.self.now.clients now.clients next.clients
    c.args.self.now.world now.world next.world c.loop-number.yielded c.in-Some.field-0
    c.answer-response.result so_far.2 c.answer-response.ensures in
    rw p.1 (
      length (c.loop-number.yielded ++ c.in-Some.field-0 ∷ []),
      subst (λ l. CarriesOut g.D.Disk c.args.self.now.clients c.args.self.now.world l next.clients
          next.world) lines done,
    )

pub returns-clause-plays : goal.returns-clause-plays
returns-clause-plays g c = c.loop-number.invariant.0

pub returns-clause-lines : goal.returns-clause-lines
returns-clause-lines g c =
    let all = c.args.lines.items in
    let end = YieldsList-end (YieldsList-from_vec {s = c.into_iter-number-iterator.result} all
    (search rules) (search rules)) c.loop-number.yielded c.loop-number.number-iterator
    c.loop-number.yielded_by c.next.result c.next.new.self c.in-None.is c.next.ensures.steps in
    let whole : c.loop-number.yielded ≡ all =
    c.loop-number.invariant.1 ∙ ap (λ n. take n all) end.1 ∙
    take_all (length all) all (omega arith) in
    subst (λ l. CarriesOut g.D.Disk c.args.self.now.clients c.args.self.now.world l
    c.loop-number.self.clients c.loop-number.self.world) whole c.loop-number.invariant.2
