-- `until` goes past the bytes up to a byte, and that byte.
use Prim.Native.Nat.{ℕ, ◌+◌, ◌-◌}
use mathlib.Core.Path.{◌≡◌, ap}
use native.Mathlib.Omega.{arith}
use Rattle.octets.proofs.Reading.{to_the_end, counted_in, counted-out, counted-past}
use Rattle.octets.proofs.cursor.Cursor.until.Goals as goal

pub returns-then-s-at : goal.returns-then-s-at
returns-then-s-at c = counted-past c.args.c c.args.s.now _ c.if-s-at.true

pub returns-then-n-s : goal.returns-then-n-s
returns-then-n-s c =
    let a = c.args in
    let at = a.self.at in
    let k : at + c.before-n.result - at ≡ c.before-n.result = omega arith in
    rw k at (counted_in a.c a.s.now at (at + c.before-n.result) (ap (λ (n : ℕ). at + n) (rw (to_the_end a.s.now at) at c.before-n.ensures)) (omega (arith, c.if-n-s.true)))

pub returns-else-n-s : goal.returns-else-n-s
returns-else-n-s c =
    let a = c.args in
    let at = a.self.at in
    counted-out a.c a.s.now at (at + c.before-n.result) (ap (λ (n : ℕ). at + n) (rw (to_the_end a.s.now at) at c.before-n.ensures)) (omega (arith, c.if-n-s.false))
