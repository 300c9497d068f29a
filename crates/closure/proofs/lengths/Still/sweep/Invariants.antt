-- `closure::lengths::Still::sweep` meets its contract. Assumes nothing.
use Prim.Native.Nat.{◌<◌}
use Rattle.closure.specs.Fills.{LengthsFilled}
use Rattle.closure.proofs.lengths.Still.sweep.Given as goal

abbrev pub invariant-loop-c : goal.invariant-loop-c
invariant-loop-c l = LengthsFilled l.fn.self.grammar.size l.fn.self.grammar.rules.now l.fn.self.table.now l.initial.lengths l.lengths (λ x. x < l.c) l.moved
