-- `put_row`: a store for each column, one after the other.
use mathlib.Core.Path.{◌≡◌, refl}
use native.Mathlib.Omega.{arith}
use Prim.Native.Nat.{◌+◌}
use Rattle.octets.specs.Helpers.{put}
use Rattle.block.specs.Rows.{Column, column_of}
use Rattle.blend.proofs.blend.put_row.Goals as goal

pub returns : goal.returns
unfolding put
returns c =
    let i = c.args.i in
    let first : i + column_of Column.code ≡ i = omega arith in
    let next : (d : Column) → i + column_of d + 1 ≡ i + (column_of d + 1) = λ d. omega arith in
    record { value = refl; table_after = rw (first, next Column.address, next Column.index, next Column.count, next Column.at, next Column.payload) refl }
