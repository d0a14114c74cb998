-- What a test that holds, or fails, says of the search's answer, in the form in which a walk has a test.
use mathlib.Core.Path.{◌≡◌, sym, ◌∙◌}
use Prim.Native.Nat.{ℕ, ◌+◌, ◌-◌, ◌≤◌, ◌<◌}
use mathlib.Core.Bool.{Bool, true, false}
use Rattle.octets.specs.Paper.{Paper}
use Rattle.octets.proofs.Tests.{held, failed}
use Rattle.runtime.specs.Addresses.{found, missing, seek}
use Rattle.runtime.proofs.Views.{seek-turn, seek-over, seek-starts}

pub yes : {t : Bool} (x y : Paper) → t ≡ true → x ≡ (elim t as (λ (b : Bool). Paper) [ true ↦ x | false ↦ y ])
yes x y e = sym (held x y e)

pub no : {t : Bool} (x y : Paper) → t ≡ false → y ≡ (elim t as (λ (b : Bool). Paper) [ true ↦ x | false ↦ y ])
no x y e = sym (failed x y e)

module _ (p : ℕ → Bool) (n : ℕ) {x : Paper} where
  pub from_start : seek p n 0 ≡ x → seek p (n - 0) 0 ≡ x
  from_start e = seek-starts p n ∙ e

  module _ (i : ℕ) where
    pub hit : i < n → p i ≡ true → seek p (n - i) i ≡ x → found i ≡ x
    hit h t e = yes _ _ t ∙ sym (seek-turn p n i h) ∙ e

    pub miss : i < n → p i ≡ false → seek p (n - i) i ≡ x → seek p (n - (i + 1)) (i + 1) ≡ x
    miss h t e = no (found i) _ t ∙ sym (seek-turn p n i h) ∙ e

    pub over : n ≤ i → seek p (n - i) i ≡ x → missing ≡ x
    over h e = sym (seek-over p n i h) ∙ e
