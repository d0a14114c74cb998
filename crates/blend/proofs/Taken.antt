-- A code is taken, or refused by 4 or 5. So what holds of these three holds of the tree that takes it.
use Prim.Native.Nat.{ℕ}
use mathlib.Core.Bool.{Bool, true, false}
use lib.Dec.{eqb}
use Rattle.octets.specs.Reader.{Reader}
use Rattle.octets.specs.Reader.Reader.{done, refuse}
use Rattle.octets.specs.declared.Refusal.TheVariants.{UnsupportedCountOnPrincipalBlock, UnknownBlockCode}
use Rattle.block.specs.declared.Kind.{Kind}
use Rattle.block.specs.declared.Takes.{Takes}
use Rattle.block.specs.Kinds.{about}
use Rattle.blend.specs.Blocks.{taken_by, taken}

module _ (P : Reader (Unit {0}) → Type 0) (yes : P (done tt)) (many : P (refuse UnsupportedCountOnPrincipalBlock)) (unknown : P (refuse UnknownBlockCode)) where
  of-taken_by : (t : Takes) (n : ℕ) → P (taken_by t n)
  of-taken_by Takes.Always n = yes
  of-taken_by Takes.Alone n = go (eqb n 1)
    where
      go : (c : Bool) → P (elim c as (λ (d : Bool). Reader (Unit {0})) [ true ↦ done tt | false ↦ refuse UnsupportedCountOnPrincipalBlock ])
      go true = yes
      go false = many
  of-taken_by Takes.Never n = unknown

  pub of-taken : (k : Kind) (n : ℕ) → P (taken k n)
  of-taken k n = of-taken_by (about k).takes n
