-- A walk from the start gives the reader's rows, one after another, and then its end or its refusal: `walks`. There is no other walk: `one-walk`.
-- Both hold of any file and of any tree that reads its header.
use Rattle.std.specs.Prelude.{Result, Ok, Err, Option, Some, None}
use Prim.Native.Nat.{ℕ, zero, suc, ◌+◌, ◌≤◌, ◌<◌}
use mathlib.Core.List.{List, [], ◌∷◌}
use mathlib.Core.Path.{◌≡◌, refl, sym, ◌∙◌, ap, subst}
use native.Mathlib.Omega.{arith}
use borrow.Author.Tests.{lt-ltb, le-ltb}
use lib.ListN.{length}
use Rattle.octets.specs.Paper.{Paper}
use Rattle.octets.specs.Paper.Paper.{accepts}
use Rattle.octets.specs.Reader.{Reader, Outcome, run}
use Rattle.octets.specs.Reader.Outcome.{read, fault}
use Rattle.octets.specs.Refusals.{paper_fault}
use Rattle.octets.proofs.Extent.{ends-within}
use Rattle.octets.proofs.Tests.{held, failed}
use Rattle.dna.specs.declared.dna.DnaCounts.{DnaCounts}
use Rattle.header.specs.declared.Header.{Header}
use Rattle.block.specs.declared.Row.{Row}
use Rattle.blend.specs.declared.blend.Boundary.{Boundary}
use Rattle.octets.specs.declared.Fault.{Fault}
use Rattle.walker.specs.declared.Place.{Place}
use Rattle.walker.specs.declared.Step.{Step}
use Rattle.header.specs.Header.{HeaderBytes, valued}
use Rattle.blend.specs.Blocks.{boundary_of}
use Rattle.blend.specs.Chain.{File, ended as ended_as, link, chain, chain_from, on_header, file_by, rows_of}
use Rattle.walker.specs.Walker.{Walked, stays, last_is_dna, end_mark, step_over, stands_for, step_by, Stepped, start, Stop, stopped, Walk}
use Rattle.walker.specs.Walker.Stop.{ended, refused}
use Rattle.blend.proofs.Answers.{valued_read}
use Rattle.blend.proofs.Chains.{block_moves}
use Rattle.walker.proofs.Lossless.{whole-step}
use Rattle.walker.proofs.Steps.{step-refused, step_over_lem}

-- how a reading stops
abbrev pub stop_of : Outcome DnaCounts → Stop
stop_of (read n end) = ended end
stop_of (fault x) = refused x

abbrev pub stop_by : Outcome File → Stop
stop_by (read f at) = stop_of f.chain.last
stop_by (fault x) = refused x

abbrev paper_stop : Stop → Paper
paper_stop (ended next) = accepts 1 (next ∷ [])
paper_stop (refused x) = paper_fault x

mark-told : (l : Option DnaCounts) (next : ℕ) → end_mark (last_is_dna l) next ≡ paper_stop (stop_of (ended_as l next))
mark-told None next = refl
mark-told (Some n) next = refl

module _ (header : Reader HeaderBytes) (s : List ℕ) where
  -- a step that stays is one that stops
  stops : (p : Place) (a : Stop) → step_by header s p ≡ stays p (paper_stop a) → Stepped header s p (stopped a p)
  stops p (ended next) e = (sym (ap (λ (w : Walked). w.answer) e), sym (ap (λ (w : Walked). w.place) e))
  stops p (refused n) e = (sym (ap (λ (w : Walked). w.answer) e), sym (ap (λ (w : Walked). w.place) e))

  module _ (h : Header) (first : ℕ) (g : valued (run header s 0) ≡ read h first) where
    -- a place that stands for a boundary, with what the chain knows there
    stands_at : Place → ℕ → Option DnaCounts → Type 0
    stands_at p at last = (p.at ≤ length s) × (stands_for first p ≡ record { at = at; dna = last_is_dna last }) × (first ≤ at)

    step-at : (p : Place) (at : ℕ) (last : Option DnaCounts) → stands_at p at last → (b : Result Boundary Fault) → boundary_of h s at ≡ b → step_by header s p ≡ step_over p (record { at = at; dna = last_is_dna last }) b
    unfolding stands_at
    step-at p at last w b e = step_over_lem header s p w.0 h first g (record { at = at; dna = last_is_dna last }) (sym w.1) b e

    moved_on : (at : ℕ) (r : Row) (l : Option DnaCounts) (next : ℕ) → boundary_of h s at ≡ Ok (Boundary.Block r l next) → first ≤ at → stands_at (record { at = next; dna = last_is_dna l }) next l
    unfolding stands_at
    moved_on at r l next e f =
        let w = block_moves h s at r l next e in
        let k : first < next = omega (arith, w.0) in
        (w.1, held _ _ (lt-ltb _ _ k), omega (arith, w.0))

    walk-chain : (fuel at : ℕ) (last : Option DnaCounts) → length s < at + fuel → (p : Place) → stands_at p at last → at ≤ length s
        → Walk (Stepped header s) p (chain fuel h s at last).rows (stop_of (chain fuel h s at last).last)
    unfolding chain stands_at
    walk-chain zero at last e p w i = absurd (omega arith)
    walk-chain (suc fuel) at last e p w i = go (boundary_of h s at) refl (λ next l. walk-chain fuel next l)
      where
        go : (b : Result Boundary Fault) → boundary_of h s at ≡ b
            → ((next : ℕ) (l : Option DnaCounts) → length s < next + fuel → (q : Place) → stands_at q next l → next ≤ length s
            → Walk (Stepped header s) q (chain fuel h s next l).rows (stop_of (chain fuel h s next l).last))
            → Walk (Stepped header s) p (link b last at (chain fuel h s)).rows (stop_of (link b last at (chain fuel h s)).last)
        go (Ok Boundary.EndMark) t f = stops p (stop_of (ended_as last (at + 4))) (step-at p at last w (Ok Boundary.EndMark) t ∙ ap (stays p) (mark-told last (at + 4)))
        go (Err x) t f = stops p (refused x) (step-at p at last w (Err x) t)
        go (Ok (Boundary.Block r l next)) t f =
            let v = block_moves h s at r l next t in
            let q : Place = record { at = next; dna = last_is_dna l } in
            let k = step-at p at last w (Ok (Boundary.Block r l next)) t in
            (q, (sym (ap (λ (x : Walked). x.answer) k), sym (ap (λ (x : Walked). x.place) k)), f next l (omega (arith, v.0)) q (moved_on at r l next t w.2) v.1)

  from_start : (o : Outcome Header) → valued (run header s 0) ≡ o → Walk (Stepped header s) start (rows_of (on_header s o)) (stop_by (on_header s o))
  unfolding chain_from stands_at
  from_start (read h first) g =
      let b = valued_read s (run header s 0) h first g in
      let i : first ≤ length s = omega (arith, ends-within header s 0 b.0 first b.1) in
      let e : length s < first + suc (length s) = omega arith in
      walk-chain h first g (suc (length s)) first None e start (omega arith, failed _ _ (le-ltb first 0 (omega arith)), omega arith) i
  from_start (fault x) g = stops start (refused x) (step-refused header s start (omega arith) x g)

  pub walks : Walk (Stepped header s) start (rows_of (file_by header s)) (stop_by (file_by header s))
  walks = from_start (valued (run header s 0)) refl

  -- a step has one answer
  one-step : (p : Place) (a b : Step) → Stepped header s p a → Stepped header s p b → a ≡ b
  one-step p a b x y = whole-step a b (x.0 ∙ sym y.0) (x.1 ∙ sym y.1)

  no_block : (a : Stop) (p q : Place) (r : Row) → stopped a p ≡ Step.Block r q → ⊥
  no_block (ended n) p q r e =
      let z : ◌≡◌ {A = ℕ} 0 1 = cc in
      omega arith
  no_block (refused n) p q r e =
      let z : ◌≡◌ {A = ℕ} 0 1 = cc in
      omega arith

  one_stop : (a b : Stop) (p : Place) → stopped a p ≡ stopped b p → a ≡ b
  one_stop (ended n) (ended m) p e = cc
  one_stop (ended n) (refused m) p e = cc
  one_stop (refused n) (ended m) p e = cc
  one_stop (refused n) (refused m) p e = cc

  pub one-walk : (p : Place) (rows others : List Row) (a b : Stop) → Walk (Stepped header s) p rows a → Walk (Stepped header s) p others b → (rows ≡ others) × (a ≡ b)
  one-walk p [] [] a b x y = (refl, one_stop a b p (one-step p (stopped a p) (stopped b p) x y))
  one-walk p [] (r ∷ rs) a b x y = absurd (no_block a p y.0 r (one-step p (stopped a p) (Step.Block r y.0) x y.1))
  one-walk p (r ∷ rs) [] a b x y = absurd (no_block b p x.0 r (one-step p (stopped b p) (Step.Block r x.0) y x.1))
  one-walk p (r ∷ rs) (t ∷ ts) a b x y =
      let e : Step.Block r x.0 ≡ Step.Block t y.0 = one-step p (Step.Block r x.0) (Step.Block t y.0) x.1 y.1 in
      let f : r ≡ t = cc in
      let g : y.0 ≡ x.0 = cc in
      let w = one-walk x.0 rs ts a b x.2 (subst (λ (q : Place). Walk (Stepped header s) q ts b) g y.2) in
      (ap (λ (q : Row). q ∷ rs) f ∙ ap (λ (l : List Row). t ∷ l) w.0, w.1)
