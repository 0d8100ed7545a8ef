use Rattle.vrx_lock.proofs.receiver.Receiver.split.Given as goal

-- the new seat's actor
abbrev pub ghosts-cut : goal.ghosts-cut
ghosts-cut g a = record { called = a.actor }
