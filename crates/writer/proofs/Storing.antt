-- Stores one after the other: what the second stores comes after what the first stored.
use Prim.Native.Nat.{ℕ, ◌+◌}
use mathlib.Core.List.{List, [], ◌++◌}
use mathlib.Core.Path.{◌≡◌, refl, sym, ◌∙◌}
use native.Mathlib.Omega.{arith}
use lib.ListN.{length}
use Rattle.octets.specs.declared.Endianness.{Endianness}
use Rattle.octets.specs.Helpers.{put}
use Rattle.writer.specs.declared.sink.Sink.{Sink}
use Rattle.writer.specs.Helpers.{Stores}
use Rattle.octets.specs.Number.{bytes_of}
use Rattle.octets.proofs.Filling.{put-append}
use Rattle.octets.proofs.Spelling.{bytes_of-length}

-- nothing stored
pub stored-none : (s : Sink) → Stores s 0 [] s
unfolding put
stored-none s = record { same_reference = refl; long = refl; at_after = omega arith; out_after = refl }

module _ {a b c : Sink} where
  pub stored_both : (m n k : ℕ) (vs ws : List ℕ) → length vs ≡ m → k ≡ m + n → Stores a m vs b → Stores b n ws c → Stores a k (vs ++ ws) c
  stored_both m n k vs ws l e p q =
      let i : b.at ≡ a.at + length vs = omega (arith, p.at_after) in
      record {
        same_reference = q.same_reference ∙ p.same_reference;
        long = q.long ∙ p.long;
        at_after = omega (arith, p.at_after, q.at_after);
        out_after = q.out_after ∙ rw (p.out_after, i) (sym (put-append a.out.now a.at vs ws));
      }

  -- a number, and what comes after it
  pub stored-number : (o : Endianness) (w x n k : ℕ) (ws : List ℕ) → k ≡ w + n → Stores a w (bytes_of o w x) b → Stores b n ws c → Stores a k (bytes_of o w x ++ ws) c
  stored-number o w x n k ws = stored_both w n k (bytes_of o w x) ws (bytes_of-length o w x)
