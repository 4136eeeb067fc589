-- Whatever is obeyed is played.
use Rattle.std.proofs.Common.{◌≡◌, ◌+◌, ◌<◌, ◌%◌, List, [], ◌∷◌, ◌++◌, length, take, get_or, Result}
use Rattle.std.proofs.Common.{refl, sym, ◌∙◌, ap, subst, arith, length-append}
use Rattle.std.proofs.lemmas.List.{take_more}
use Rattle.calls.specs.declared.refusal.Refusal.{Refusal}
use Rattle.disk_model.specs.declared.disk.Disk.{Ghosts}
use Rattle.world.specs.Moves.{Whole}
use Rattle.talks.specs.Plays.{IsPlayed}
use Rattle.talks.specs.Requests.{Obeys, nobody, Acts, Answers, CarriesOut}
use Rattle.talks.specs.declared.client.Client.{Client}
use Rattle.talks.specs.declared.texts.Response.{Response}
use Rattle.script.specs.declared.action.Action.{Action}
use Rattle.script.specs.declared.action.Request.{Request}
use Rattle.script.specs.declared.line.Line.{Line}
use Rattle.talks.proofs.Stepping.{plays_append}

module _ {D : Type 0} (g : Ghosts D) where
  pub obeys_plays : (k l : Client) (old new : Whole D) (request : Request)
      (r : Result Response Refusal) → Obeys g k old request r l new → IsPlayed g old new
  obeys_plays k l old new (Request.Make kind name) r obeys = (obeys.2.0, obeys.2.2)
  obeys_plays k l old new Request.Begin r obeys = (obeys.2.0, obeys.2.2)
  obeys_plays k l old new (Request.Call name operation) r obeys = (_, obeys.2.whole)
  obeys_plays k l old new (Request.Later name call) r obeys = (_, obeys.2.whole)
  obeys_plays k l old new Request.Commit r obeys = (obeys.2.0, obeys.2.2)
  obeys_plays k l old new Request.Abort r obeys = (obeys.2.0, obeys.2.2)
  obeys_plays k l old new Request.Kept r obeys = (obeys.3.0, obeys.3.2)

  pub played_on : (old mid new : Whole D) → IsPlayed g old mid → IsPlayed g mid new →
      IsPlayed g old new
  played_on old mid new first second =
      (_, plays_append g old mid new first.0 second.0 first.1 second.1)

  pub acts_plays : (ks ls : List Client) (old new : Whole D) (action : Action)
      (r : Result Response Refusal) → Acts g ks old action r ls new → IsPlayed g old new
  acts_plays ks ls old new Action.Turn r acts = (acts.3.0, acts.3.2)
  acts_plays ks ls old new Action.Checkpoint r acts = (_, acts.3.whole)
  acts_plays ks ls old new (Action.Client n request) r acts =
      obeys_plays (get_or ks (n % 64) nobody) acts.0 old new request r acts.2

  pub answers_plays : (ks ls : List Client) (old new : Whole D) (action : Action)
      (response : Response) →
      Answers g ks old action response ls new → IsPlayed g old new
  answers_plays ks ls old new action response answers =
      acts_plays ks ls old new action answers.0 answers.2

  -- one line more
  pub one_line_more : (ks ms ls : List Client) (old mid new : Whole D) (lines : List Line)
      (line : Line) (response : Response) → CarriesOut g ks old lines ms mid →
      Answers g ms mid line.what response ls new → CarriesOut g ks old (lines ++ line ∷ []) ls new
  one_line_more ks ms ls old mid new [] line response none answers = (
    response,
    ls,
    new,
    subst (λ k. Answers g k old line.what response ls new) none.0
        (subst (λ w. Answers g ms w line.what response ls new) none.1 answers),
    (refl, refl),
  )
  one_line_more ks ms ls old mid new (first ∷ lines) line response done answers = (
    done.0,
    done.1,
    done.2,
    done.3,
    one_line_more done.1 ms ls done.2 mid new lines line response done.4 answers,
  )

-- one more of the first lines
pub lines_more : (all first : List Line) (x : Line) → first ≡ take (length first) all →
    length first < length all → x ≡ get_or all (length first) x →
    first ++ x ∷ [] ≡ take (length (first ++ x ∷ [])) all
lines_more all first x so_far inside at =
    let size : length first + 1 ≡ length (first ++ x ∷ []) =
    omega (arith, length-append first (x ∷ [])) in
    ap (λ l. l ++ x ∷ []) so_far ∙ ap (λ y. take (length first) all ++ y ∷ []) at ∙
    sym (take_more all (length first) x inside) ∙ ap (λ n. take n all) size
