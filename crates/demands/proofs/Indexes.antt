-- An index over rows with the same addresses is the same; and the search through one that was built answers as the plain one.
use Prim.Native.Nat.{ℕ, ◌+◌, ◌/◌, ◌≤◌, ◌<◌}
use mathlib.Core.List.{List}
use mathlib.Core.Path.{◌≡◌, sym, ◌∙◌, ap}
use native.Mathlib.Omega.{arith}
use lib.ListN.{length, get_or, take, length-take}
use Rattle.octets.specs.Paper.{Paper}
use Rattle.octets.specs.Tables.{written}
use Rattle.octets.proofs.Written.{wrote, written_over}
use Rattle.block.specs.declared.Row.{Row}
use Rattle.block.specs.Rows.{Column, per_row, cell, none}
use Rattle.block.proofs.Tables.{row_at}
use Rattle.index.specs.Index.{heads_of, links_of, where_there, built, indexed_as}
use Rattle.index.proofs.Answers.{left}
use Rattle.index.proofs.Firsts.{numbers-many}
use Rattle.index.proofs.Lossless.{whole_indexed}
use Rattle.index.proofs.Plain.{as_plain, heads_same, links-same}
use Rattle.demands.specs.Answers.{rows_in}
use Rattle.demands.specs.Sentences.{IndexAsPlain}
use Rattle.demands.specs.Unaltered.{WroteSame, SameIndex}

pub same_index : (t u : List ℕ) (rows buckets : ℕ) → length u ≡ length t → ((i : ℕ) → i < rows → cell u i Column.address ≡ cell t i Column.address) → SameIndex t u rows buckets
same_index t u rows buckets long same heads links heads' links' firsts nexts firsts' nexts' a c eh el x y =
    let p = indexed_as t rows buckets heads links in
    let told : indexed_as u rows buckets firsts nexts ≡ p = ap (λ (n : ℕ). where_there (n / per_row) rows buckets (length firsts) (length nexts) built) long
    ∙ ap (λ (n : ℕ). where_there (length t / per_row) rows buckets n (length nexts) built) eh ∙ ap (λ (n : ℕ). where_there (length t / per_row) rows buckets (length heads) n built) el in
    let both : (new new' l l' k k' : List ℕ) → new' ≡ new → l' ≡ written p new l → k' ≡ written (indexed_as u rows buckets firsts nexts) new' k → WroteSame l l' k k' = λ new new' l l' k k' en el ek.
    (wrote p new, el ∙ written_over p new l, ek ∙ ap (λ (w : Paper). written w new' k) told ∙ ap (λ (n : List ℕ). written p n k) en ∙ written_over p new k) in (
      whole_indexed c a (y.0 ∙ told ∙ sym x.0),
      both (heads_of t rows buckets) (heads_of u rows buckets) heads heads' firsts firsts' (heads_same t u rows buckets same) x.1 y.1,
      both (links_of t rows buckets) (links_of u rows buckets) links links' nexts nexts' (links-same t u rows buckets same) x.2 y.2,
    )

-- rows that are the same have the same addresses
addresses-same : (t u : List ℕ) (rows : ℕ) → rows_in u rows ≡ rows_in t rows → (i : ℕ) → i < rows → cell u i Column.address ≡ cell t i Column.address
addresses-same t u rows e i h =
    let z : 0 + i ≡ i = omega arith in
    ap (λ (j : ℕ). cell u j Column.address) (sym z) ∙ ap (λ (r : Row). r.address) (sym (row_at u rows 0 i h) ∙ ap (λ (l : List Row). get_or l i none) e ∙ row_at t rows 0 i h) ∙ ap (λ (j : ℕ). cell t j Column.address) z

-- a table whose first n numbers are those of a list of n has so many
as_long : (n : ℕ) (l m : List ℕ) → take n l ≡ m → length m ≡ n → n ≤ length l
as_long n l m e k = omega (arith, length-take n l, ap length e, k)

pub index-as_plain : IndexAsPlain
unfolding heads_of links_of
index-as_plain t rows buckets heads links heads' links' b u firsts nexts e eh el address r q x y =
    let w = left t rows buckets heads links heads' links' b in
    let s = addresses-same t u rows e in
    let h : take buckets firsts ≡ heads_of u rows buckets = eh ∙ w.1 ∙ sym (heads_same t u rows buckets s) in
    let l : take rows nexts ≡ links_of u rows buckets = el ∙ w.2 ∙ sym (links-same t u rows buckets s) in
    x ∙ as_plain u rows buckets firsts nexts w.0 (as_long buckets firsts _ h (numbers-many _ buckets 0)) (as_long rows nexts _ l (numbers-many _ rows 0)) h l address ∙ sym y
