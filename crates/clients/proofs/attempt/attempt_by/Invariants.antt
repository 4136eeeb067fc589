use Rattle.clients.specs.Attempts.{number_of}
use Rattle.clients.proofs.attempt.attempt_by.Given as goal

abbrev pub ghosts-go_through : goal.ghosts-go_through
ghosts-go_through g a = record { number = number_of a.client.phase; start = a.client }
