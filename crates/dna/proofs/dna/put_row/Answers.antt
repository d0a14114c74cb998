-- `put_row`: the row is copied to where it stands in the table.
use Prim.Native.Nat.{◌+◌, ◌-◌}
use mathlib.Core.Path.{◌≡◌, sym, ap, ◌∙◌}
use native.Mathlib.Omega.{arith}
use lib.ListN.{length, drop, length-drop}
use lib.Seq.{length-take-le}
use Rattle.octets.proofs.Filling.{put-copied}
use Rattle.dna.proofs.dna.put_row.Goals as goal

pub returns-clause-table_after : goal.returns-clause-table_after
returns-clause-table_after g c =
    let a = c.args in
    let x = c.copy_from_slice.ensures in
    let r = c.requires in
    let n : length a.row ≡ a.at + g.row.N - a.at = sym (ap length x.after) ∙ x.len ∙ length-take-le (a.at + g.row.N - a.at) (drop a.at a.table.now) (omega (arith, length-drop a.at a.table.now)) in
    put-copied a.table.now a.at (a.at + g.row.N - a.at) _ a.row x.after (sym n) (omega arith)
