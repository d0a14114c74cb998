-- Laws of the two calls as a whole: what is answered where all is there, and where it is not.
use Rattle.std.specs.Prelude.{Result, Ok}
use Prim.Native.Nat.{ℕ, ◌/◌, ◌%◌, ◌<◌}
use mathlib.Core.List.{List}
use mathlib.Core.Path.{◌≡◌, sym, ◌∙◌, ap}
use borrow.Author.Tests.{eq-eqb, ne_eqb}
use lib.ListN.{length, get_or, take}
use lib.Seq.{take_at}
use Rattle.octets.specs.Paper.{Paper}
use Rattle.octets.specs.Paper.Paper.{refuses}
use Rattle.octets.specs.Tables.{written}
use Rattle.octets.proofs.Tests.{held, failed}
use Rattle.block.specs.Rows.{per_row}
use Rattle.runtime.specs.Addresses.{null}
use Rattle.index.specs.declared.index.IndexError.{IndexError}
use Rattle.index.specs.declared.index.IndexError.{IndexError}
use Rattle.index.specs.Index.{head_of, link_of, heads_of, links_of, where_there, built, indexed_as, paper_indexed, chain_from, found_as, paper_index_error}
use Rattle.index.specs.Helpers.{Cleared, Chained}
use Rattle.index.specs.Calls.{«index::build»}
use Rattle.index.proofs.Building.{heads_built, links-built}
use Rattle.index.proofs.Room.{Room, all_there, room-there, refused-alike}
use Rattle.index.proofs.Firsts.{numbers-many}

module _ (t : List ℕ) (rows buckets : ℕ) (heads links : List ℕ) where
  abbrev Lengths : Type 0
  Lengths = Room (length t / per_row) rows buckets (length heads) (length links)

  there : (answer : Paper) → Lengths → where_there (length t / per_row) rows buckets (length heads) (length links) answer ≡ answer
  there answer w = all_there (length t / per_row) rows buckets (length heads) (length links) answer w.rows-there w.some_bucket w.heads_there w.links-there

  pub builds_not : (r : Result (Unit {0}) IndexError) (n : ℕ) (vs : List ℕ) → paper_indexed r ≡ refuses n vs → paper_indexed r ≡ indexed_as t rows buckets heads links → «index::build» t rows buckets heads links r heads links
  builds_not r n vs q e =
      let k : indexed_as t rows buckets heads links ≡ refuses n vs = sym e ∙ q in
      (e, sym (ap (λ (p : Paper). written p (heads_of t rows buckets) heads) k), sym (ap (λ (p : Paper). written p (links_of t rows buckets) links) k))

  pub builds : Lengths → (cleared heads' links' : List ℕ) → Cleared buckets heads cleared → Chained t rows buckets 0 cleared heads' links links'
      → «index::build» t rows buckets heads links (Ok tt) heads' links'
  builds w cleared heads' links' z c =
      let e = there built w in (
        sym e,
        heads_built t rows buckets heads links cleared heads' links' z c w.heads_there ∙ sym (ap (λ (p : Paper). written p (heads_of t rows buckets) heads) e),
        links-built t rows buckets heads links cleared heads' links' z c w.links-there ∙ sym (ap (λ (p : Paper). written p (links_of t rows buckets) links) e),
      )

  -- what a building leaves in front of its tables
  pub left : (heads' links' : List ℕ) → «index::build» t rows buckets heads links (Ok tt) heads' links'
      → (0 < buckets) × (take buckets heads' ≡ heads_of t rows buckets) × (take rows links' ≡ links_of t rows buckets)
  unfolding heads_of links_of
  left heads' links' (e, h, l) =
      let w = room-there (length t / per_row) rows buckets (length heads) (length links) e in (
        w.some_bucket,
        ap (take buckets) (h ∙ sym (ap (λ (p : Paper). written p (heads_of t rows buckets) heads) e)) ∙ take_at (heads_of t rows buckets) _ buckets (numbers-many (head_of t rows buckets) buckets 0),
        ap (take rows) (l ∙ sym (ap (λ (p : Paper). written p (links_of t rows buckets) links) e)) ∙ take_at (links_of t rows buckets) _ rows (numbers-many (link_of t rows buckets) rows 0),
      )

  module _ (address : ℕ) where
    pub finds-null : Lengths → address ≡ 0 → null ≡ found_as t rows buckets heads links address
    unfolding found_as
    finds-null w z = sym (there _ w ∙ held _ _ (eq-eqb _ _ z))

    pub finds : Lengths → (address ≡ 0 → ⊥) → chain_from t rows links address (get_or heads (address % buckets) 0) ≡ found_as t rows buckets heads links address
    unfolding found_as
    finds w z = sym (there _ w ∙ failed _ _ (ne_eqb _ _ z))

    pub finds_not : (n : ℕ) (vs : List ℕ) → refuses n vs ≡ indexed_as t rows buckets heads links → refuses n vs ≡ found_as t rows buckets heads links address
    unfolding found_as
    finds_not n vs e = refused-alike (length t / per_row) rows buckets (length heads) (length links) n vs _ e

    pub finds_refused : (x : IndexError) → paper_index_error x ≡ indexed_as t rows buckets heads links → paper_index_error x ≡ found_as t rows buckets heads links address
    finds_refused (IndexError.Refusal r) e = finds_not _ _ e
    finds_refused (IndexError.TooShort b n) e = finds_not _ _ e
