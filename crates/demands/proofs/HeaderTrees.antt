-- The tree that reads the header is one that the demands can be stated over.
use Rattle.header.specs.Header.{header_bytes}
use Rattle.header.proofs.Headers.{header_length_lem}
use Rattle.header.proofs.Own.{header-own}
use Rattle.demands.specs.Answers.{HeaderTree}

pub header_tree : HeaderTree header_bytes
header_tree = record { long = header_length_lem; own = header-own }
