use Rattle.std.proofs.Common.{◌∷◌, arith, length, length-append, ap, rules}
use Rattle.std.proofs.lemmas.Result.{err_from_is_err_and}
use Rattle.script.specs.Scripts.{lines_of}
use Rattle.script.proofs.ScriptLines.{says_more, stops_more, says_last, why_here, why_last}
use Rattle.script.proofs.reading.read_lines.Goals as goal

pub returns-in_err-read_line-clause-refused : goal.returns-in_err-read_line-clause-refused
returns-in_err-read_line-clause-refused c =
    let p = err_from_is_err_and c.from_residual.result c.from_residual.ensures.1 in
    rw (p.1, p.2) (why_here c.in_err-read_line.field-0.0 c.loop-front.number c.loop-front.rest.now
    c.in-Some.front.now c.in-Some.back.now (lines_of c.args.text.now) c.in-Some.ensures.some
    c.in-Some.ensures.first c.in_err-read_line.ensures.refused c.loop-front.invariant.stops)

pub loop-front-preserved : goal.loop-front-preserved
loop-front-preserved c =
    let rest = c.loop-front.rest.now in
    let front = c.in-Some.front.now in
    let back = c.in-Some.back.now in
    let more = c.in_ok-read_line.ensures.read in
    let whole = lines_of c.args.text.now in
    record {
      says = rw more.1
          (says_more c.loop-front.number rest front back c.loop-front.lines.items more.0 whole
          c.in-Some.ensures.some c.in-Some.ensures.first more.2 c.loop-front.invariant.says);
      stops = stops_more c.loop-front.number rest front back more.0 whole c.in-Some.ensures.some
          c.in-Some.ensures.first more.2 c.loop-front.invariant.stops;
      count = omega (arith, ap length c.in-Some.ensures.some, length-append front (10 ∷ back));
    }

pub returns-in_err-read_line-2-clause-refused : goal.returns-in_err-read_line-2-clause-refused
returns-in_err-read_line-2-clause-refused c =
    let p = err_from_is_err_and c.from_residual-in_err-read_line-2.result
    c.from_residual-in_err-read_line-2.ensures.1 in
    rw (p.1, p.2) (why_last c.in_err-read_line-2.field-0.0 c.loop-front.number
    c.loop-front.rest.now (lines_of c.args.text.now) c.in_default.ensures.none
    c.in_err-read_line-2.ensures.refused c.loop-front.invariant.stops)

pub returns-clause-read : goal.returns-clause-read
returns-clause-read c =
    let more = c.in_ok-read_line-2.ensures.read in
    rw more.1 (says_last c.loop-front.number c.loop-front.rest.now c.loop-front.lines.items more.0
    (lines_of c.args.text.now) c.in_default.ensures.none more.2 c.loop-front.invariant.says)

pub loop-front-init : goal.loop-front-init
loop-front-init c = search rules
