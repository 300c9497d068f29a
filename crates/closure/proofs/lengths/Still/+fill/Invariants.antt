-- `closure::lengths::Still::fill`, which calls itself with fewer levels, meets its contract. Assumes nothing.
use Rattle.closure.proofs.lengths.Still.+fill.Given as goal

abbrev pub decreases-fill : goal.decreases-fill
decreases-fill l = l.levels
