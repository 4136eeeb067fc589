use Rattle.script.proofs.ScriptSeconds.{one_place, two_places, three_places}
use Rattle.script.proofs.seconds.places.Goals as goal

pub returns-in-len1 : goal.returns-in-len1
returns-in-len1 c = one_place c.thousandths.result c.args.text.now c.in-len1.len_at_least
    c.in-len1.len_below c.thousandths.ensures

pub returns-in-len2 : goal.returns-in-len2
returns-in-len2 c = two_places c.thousandths-in-len2.result c.args.text.now
    c.in-len2.len_at_least c.in-len2.len_below c.thousandths-in-len2.ensures

pub returns-in-len3 : goal.returns-in-len3
returns-in-len3 c = three_places c.thousandths-in-len3.result c.args.text.now
    c.in-len3.len_at_least c.in-len3.len_below c.thousandths-in-len3.ensures
