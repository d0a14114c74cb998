-- What each public call promises, by its name (crates/octets/specs/Calls.antt says how to read it): the reader's contract, and with it the demand.
use Rattle.std.specs.Prelude.{ℕ, List, Result}
use Rattle.blend.specs.declared.blend.RawBlend.{RawBlend}
use Rattle.blend.specs.declared.blend.BlendError.{BlendError}
use Rattle.blend.specs.Calls.{«blend::blend»}
use Rattle.header.specs.Header.{header_bytes}
use Rattle.demands.specs.declared.Two.{Two}
use Rattle.demands.specs.Cover.{CoveredBy}
use Rattle.demands.specs.Unaltered.{UnalteredBy}

-- a file that is read is covered
abbrev pub «read» : (file table : List ℕ) → Result RawBlend BlendError → List ℕ → Type 0
«read» file table r table' = «blend::blend» file table r table' × CoveredBy header_bytes file r table'

-- two files are read, and where they are alike the second stays as the first
abbrev pub read_two : (one first other second : List ℕ) → Two → List ℕ → List ℕ → Type 0
read_two one first other second r first' second' =
    «blend::blend» one first r.one first' × «blend::blend» other second r.other second' × UnalteredBy one first r.one first' other second r.other second'
