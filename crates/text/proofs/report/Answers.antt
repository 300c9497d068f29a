-- `text::report` meets its contract. Assumes nothing.
use mathlib.Core.Path.{sym, ◌∙◌}
use native.Mathlib.Omega.{arith}
use borrow.Author.Rules.{rules}
use Rattle.text.proofs.Pens.{penned_over}
use Rattle.text.proofs.Rooms.{report_room}
use Rattle.text.proofs.report.Goals as goal

pub returns : goal.returns
returns c =
    let new = c.new-pen.ensures in
    let p = c.written.ensures in
    let name = sym (p.penned.same ∙ new.same) in
    let s = penned_over new p.penned (omega (arith, report_room _ p.text p.is)) in (
      omega arith,
      record { report = p.text; is = p.is; count = c.at.ensures ∙ s.0; text = search (rules, name, s) },
    )
