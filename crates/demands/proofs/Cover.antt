-- Cover: the demand's proof, for any tree that reads a header as it should, and for the one that the code follows.
use Rattle.std.specs.Prelude.{Ok, Err, None}
use Prim.Native.Nat.{ℕ}
use mathlib.Core.List.{List, ◌++◌}
use mathlib.Core.Path.{◌≡◌, sym, ◌∙◌, ap, subst}
use native.Mathlib.Omega.{arith}
use lib.ListN.{take}
use lib.Seq.{take-add, take-take, length-take-le}
use Rattle.octets.specs.Ascii.{ascii}
use Rattle.octets.specs.Reader.{Reader, run}
use Rattle.octets.specs.Reader.Outcome.{read}
use Rattle.dna.specs.declared.dna.DnaCounts.{DnaCounts}
use Rattle.header.specs.declared.Header.{Header}
use Rattle.block.specs.declared.Row.{Row}
use Rattle.blend.specs.declared.blend.RawBlend.{RawBlend}
use Rattle.blend.specs.declared.blend.BlendError.{BlendError}
use Rattle.blend.specs.Chain.{File, file_by}
use Rattle.header.specs.Header.{HeaderBytes, header_length, header_bytes, valued}
use Rattle.demands.specs.Answers.{HeaderTree, rows_in}
use Rattle.demands.specs.Cover.{EveryBlock, EveryBlockBy, blocks_part, Covered, Cover}
use Rattle.demands.proofs.Accepted.{accepted}
use Rattle.demands.proofs.Covering.{blocks-whole, rows-abut, rest-whole}
use Rattle.demands.proofs.Files.{filed, file-linked, first-inside}
use Rattle.demands.proofs.HeaderTrees.{header_tree}
use Rattle.blend.proofs.Links.{linked-ends}

module _ (header : Reader HeaderBytes) (tree : HeaderTree header) where
  -- of a file that the rules read
  pub covered : (s : List ℕ) (f : File) (first : ℕ) (n : DnaCounts) (end : ℕ) → file_by header s ≡ read f first → f.chain.last ≡ read n end
      → Covered header s f.header f.chain.rows end
  covered s f first n end e l =
      let h = f.header in
      let w = filed header s f first e in
      let k = file-linked header s f first w n end l in
      let c = rest-whole h s f.chain.rows first None n end k in
      let m : first ≡ header_length h.format = tree.long s w.bytes first w.found ∙ ap (λ (x : Header). header_length x.format) (sym w.value) in
      let own : run header (take first s) 0 ≡ read w.bytes first = tree.own s (take first s) w.bytes first w.found (take-take first first s (omega arith)) in
      record {
        whole = ap (λ (i : ℕ). take i s) c.1 ∙ take-add first c.0 s ∙ ap (λ (l : List ℕ). take first s ++ l) c.2 ∙ ap (λ (i : ℕ). take i s ++ (blocks_part h s f.chain.rows ++ ascii "ENDB")) m;
        inside = (linked-ends h s f.chain.rows first None n end k).1;
        first = length-take-le (header_length h.format) s (omega (arith, m, first-inside header s f first w));
        reads = rw (← m) (ap valued own ∙ ap (λ (x : Header). read x first) (sym w.value));
        blocks = blocks-whole h s f.chain.rows first None n end k;
        abut = rw (← m) (rows-abut h s f.chain.rows first None n end k);
      }

  of-answer : Cover header (file_by header)
  of-answer s t t' (Ok b) w =
      let a = accepted (file_by header s) t t' b w.0 w.1 in
      let c = covered s a.file a.first b.dna b.end a.found a.last in
      let d = subst (λ (rows : List Row). Covered header s a.file.header rows b.end) (sym a.rows) c in
      subst (λ (h : Header). Covered header s h (rows_in t' b.rows) b.end) (sym (ap (λ (x : RawBlend). x.header) a.answer)) d
  of-answer s t t' (Err (BlendError.Fault x)) w = tt
  of-answer s t t' (Err (BlendError.TableTooShort n)) w = tt

pub cover : EveryBlockBy
cover = of-answer

pub every-block : EveryBlock
every-block = cover header_bytes header_tree
