-- `numbers::in_limits` meets its contract. Assumes nothing.
use Prim.Native.Nat.{ℕ, ◌≤◌}
use native.Mathlib.Omega.{arith}
use lib.ListN.{get_or-eq_default}
use Rattle.numbers.specs.Numbers.{in_limits}
use Rattle.numbers.proofs.in_limits.Goals as goal

pub returns-in-0 : goal.returns-in-0
unfolding in_limits
returns-in-0 c = rw c.in-0.is c.between.ensures

pub returns-in-1 : goal.returns-in-1
unfolding in_limits
returns-in-1 c = rw c.in-1.is c.between-in-1.ensures

pub returns-in-2 : goal.returns-in-2
unfolding in_limits
returns-in-2 c = rw c.in-2.is c.between-in-2.ensures

pub returns-in-5 : goal.returns-in-5
unfolding in_limits
returns-in-5 c = rw c.in-5.is c.between-in-5.ensures

pub returns-in-3 : goal.returns-in-3
unfolding in_limits
returns-in-3 c = rw c.in-3.is c.between-in-3.ensures

pub returns-in-4 : goal.returns-in-4
unfolding in_limits
returns-in-4 c = rw c.in-4.is c.between-in-4.ensures

pub returns-in_default : goal.returns-in_default
unfolding in_limits
returns-in_default c =
    let h : 6 ≤ c.args.word = omega arith in
    rw (get_or-eq_default {A = ℕ} _ 0 h, get_or-eq_default {A = ℕ} _ 0 h) c.between-in_default.ensures
