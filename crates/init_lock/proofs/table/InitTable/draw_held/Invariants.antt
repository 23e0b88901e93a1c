use Rattle.std.proofs.Common.{Some}
use Rattle.init_lock.proofs.table.InitTable.draw_held.Given as goal

abbrev pub ghosts-stamp : goal.ghosts-stamp
ghosts-stamp g a = record { drawn = Some (a.place, a.event) }
