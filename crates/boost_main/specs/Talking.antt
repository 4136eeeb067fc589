-- What the clients of a server are told.
use Rattle.std.specs.Prelude.{ℕ}
use Rattle.clients.specs.Known.{Known, newcomer}
use Rattle.desks.specs.Origins.{Origin}
use Rattle.talks.specs.Dialogues.{HoldsAll, AreBorneOut}
use Rattle.boost_main.specs.declared.served.Served.{Served}

-- A thread's client, which had done nothing before, held talks one after another, and was told this
-- in them. known: what it knew at the end.
abbrev pub TellsTalks : Origin → (thread : ℕ) → Served → Known → Type 0
TellsTalks origin thread served known =
    (number : ℕ) × HoldsAll origin (newcomer number) served.told.told known

-- Each place that it was told is that of a commit or making of its own in the history that it has
-- seen, and each that it was told is kept is not above a count of the mark that it had loaded.
abbrev pub IsBorneOut : Origin → (thread : ℕ) → Served → Known → Type 0
IsBorneOut origin thread served known =
    (number : ℕ) × AreBorneOut (newcomer number) served.told.told known
