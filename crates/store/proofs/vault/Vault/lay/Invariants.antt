use Rattle.store.proofs.vault.Vault.lay.Given as goal

-- the moment at which the flip ended
abbrev pub ghosts-flip_told : goal.ghosts-flip_told
ghosts-flip_told g a = record { moment = g.D.Disk.moment a.keeper.now.disk }
