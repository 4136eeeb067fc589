use Rattle.store.proofs.vault.Vault.turn.Given as goal

-- the moment at which the turn ended
abbrev pub ghosts-turn_told : goal.ghosts-turn_told
ghosts-turn_told g a = record { moment = g.D.Disk.moment a.keeper.now.disk }
