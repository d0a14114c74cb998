-- A lent table that is filled from the front, one number a turn: what is to be written, up to a place, and then what the table held.
use Prim.Native.Nat.{ℕ, suc, ◌+◌, ◌≤◌, ◌<◌}
use mathlib.Core.List.{List, [], ◌∷◌, ◌++◌}
use mathlib.Core.Path.{◌≡◌, refl, sym, ◌∙◌, ap, subst}
use native.Mathlib.Nat.{le_of_lt, zero-add}
use native.Mathlib.Numerals.{add-one}
use native.Mathlib.Omega.{arith}
use borrow.Rule.Slice.PartMut.{put_mid}
use lib.ListN.{length, get_or, take, drop, set, length-append}
use lib.Seq.{drop-cons, take-suc, take_all, length-take-le, set_at, append_snoc, sets, sets-eq, length-sets}
use Rattle.std.proofs.lemmas.Slice.{put_mid-paste}
use Rattle.octets.specs.Helpers.{put}
use Rattle.octets.specs.Paper.{Paper}
use Rattle.octets.specs.Paper.Paper.{accepts, refuses}
use Rattle.octets.specs.Tables.{over, written}

abbrev pub partly : List ℕ → List ℕ → ℕ → List ℕ
partly all t i = take i all ++ drop i t

module _ (all t : List ℕ) (i : ℕ) where
  pub partly_more : i < length all → i < length t → set (partly all t i) i (get_or all i 0) ≡ partly all t (i + 1)
  partly_more h k =
      let e : length (take i all) ≡ i = length-take-le i all (le_of_lt h) in
      rw (add-one, drop-cons t i 0 k, take-suc all i 0 h, append_snoc (take i all) (get_or all i 0) (drop (suc i) t))
      (set_at (take i all) (get_or t i 0) (drop (suc i) t) (get_or all i 0) i e)

  pub partly-all : length all ≡ i → partly all t i ≡ over all t
  partly-all e = rw (← e) (ap (λ (l : List ℕ). l ++ drop (length all) t) (take_all (length all) all (omega arith)))

-- a refusal keeps the table
pub refused-kept : (p : Paper) (n : ℕ) (vs new t : List ℕ) → refuses n vs ≡ p → t ≡ written p new t
refused-kept p n vs new t h = ap (λ (q : Paper). written q new t) h

-- an answer with these numbers writes what it has to
pub accepted-written : (p : Paper) (kind : ℕ) (vs new t : List ℕ) → accepts kind vs ≡ p → over new t ≡ written p new t
accepted-written p kind vs new t h = ap (λ (q : Paper). written q new t) h

-- stores one after another
pub put_sets : (t : List ℕ) (i : ℕ) (vs : List ℕ) → put t i vs ≡ sets t i vs
unfolding put
put_sets t i [] = refl
put_sets t i (v ∷ vs) = put_sets (set t i v) (i + 1) vs ∙ rw add-one

pub put-over : (t vs : List ℕ) → length vs ≤ length t → put t 0 vs ≡ over vs t
put-over t vs h =
    let k : 0 + length vs ≤ length t = omega arith in
    put_sets t 0 vs ∙ sets-eq vs t 0 k ∙ ap (λ (n : ℕ). vs ++ drop n t) (zero-add (length vs))

-- a part that is written over as one
pub put-copied : (t : List ℕ) (i n : ℕ) (part row : List ℕ) → part ≡ row → n ≡ length row → i + length row ≤ length t → put_mid i n t part ≡ put t i row
put-copied t i n part row p e h =
    put_mid-paste i n t part row (length row) p (sym e) refl ∙ rw (take_all (length row) row (omega arith)) (sym (put_sets t i row ∙ sets-eq row t i h))

pub put-length : (t : List ℕ) (i : ℕ) (vs : List ℕ) → length (put t i vs) ≡ length t
put-length t i vs = ap length (put_sets t i vs) ∙ length-sets t i vs

pub put-append : (t : List ℕ) (i : ℕ) (vs ws : List ℕ) → put t i (vs ++ ws) ≡ put (put t i vs) (i + length vs) ws
unfolding put
put-append t i [] ws =
    let e : i + 0 ≡ i = omega arith in
    rw e
put-append t i (v ∷ vs) ws =
    let e : i + 1 + length vs ≡ i + suc (length vs) = omega arith in
    put-append (set t i v) (i + 1) vs ws ∙ rw e

-- A loop that stores from a first place on: what is left to store, so that all is stored in the end.
pub record Storing (t₀ : List ℕ) (first : ℕ) (all t : List ℕ) (i : ℕ) (rest : List ℕ) : Type 0 where
  pub same : put t₀ first all ≡ put t i rest
  pub room : i + length rest ≤ length t
  pub place : i + length rest ≡ first + length all
  pub long : length t ≡ length t₀

pub storing_starts : (t : List ℕ) (first : ℕ) (all : List ℕ) → first + length all ≤ length t → Storing t first all t first all
storing_starts t first all h = record { same = refl; room = h; place = refl; long = refl }

pub storing_from-front : (t all : List ℕ) → length all ≤ length t → Storing t 0 all t 0 all
storing_from-front t all h = storing_starts t 0 all (omega arith)

module _ (t₀ : List ℕ) (first : ℕ) (all t : List ℕ) (i : ℕ) where
  pub stored : (vs rest : List ℕ) → Storing t₀ first all t i (vs ++ rest) → Storing t₀ first all (put t i vs) (i + length vs) rest
  stored vs rest f =
      record {
        same = f.same ∙ put-append t i vs rest;
        room = omega (arith, f.room, length-append vs rest, put-length t i vs);
        place = omega (arith, f.place, length-append vs rest);
        long = put-length t i vs ∙ f.long;
      }

  module _ (rest : List ℕ) (f : Storing t₀ first all t i rest) (e : rest ≡ []) where
    pub storing_ends : t ≡ put t₀ first all
    unfolding put
    storing_ends = sym (f.same ∙ ap (put t i) e)

    pub storing_ends-at : i ≡ first + length all
    storing_ends-at = omega (arith, f.place, ap length e)

-- a row that is stored: there is room for it, and the rest is left
module _ (t₀ : List ℕ) (first : ℕ) (all t : List ℕ) (i : ℕ) (row rest left : List ℕ) (f : Storing t₀ first all t i left) (e : left ≡ row ++ rest) where
  as_row : Storing t₀ first all t i (row ++ rest)
  as_row = subst (Storing t₀ first all t i) e f

  pub row_fits_lem : i + length row ≤ length t
  row_fits_lem = omega (arith, as_row.room, length-append row rest)

  pub row-stored : (t' : List ℕ) (j : ℕ) → t' ≡ put t i row → j ≡ i + length row → Storing t₀ first all t' j rest
  row-stored t' j p q = rw (p, q) (stored t₀ first all t i row rest as_row)
