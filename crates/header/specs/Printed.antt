-- What `{}` writes of the types of this crate: the bytes of its text.
use Rattle.std.specs.Prelude.{ℕ, List, ◌++◌, decimal}
use Rattle.octets.specs.Ascii.{ascii}
use Rattle.octets.specs.Printed.{printed_pointer_size, printed_endianness}
use Rattle.header.specs.declared.FileFormat.{FileFormat}
use Rattle.header.specs.declared.FileFormat.TheVariants.{Legacy, New}
use Rattle.header.specs.declared.Version.{Version}
use Rattle.header.specs.declared.Header.{Header}

abbrev pub printed_format : FileFormat → List ℕ
printed_format Legacy = ascii "legacy"
printed_format New = ascii "new"

-- major, a dot, minor
abbrev pub printed_version : Version → List ℕ
printed_version v = decimal v.major ++ (ascii "." ++ decimal v.minor)

-- edition, pointer bits, order, major and minor, with spaces between
abbrev pub printed_header : Header → List ℕ
printed_header h = printed_format h.format ++ (ascii " " ++ (printed_pointer_size h.pointer_size ++ (ascii " " ++ (printed_endianness h.endianness ++ (ascii " " ++ (decimal h.version.major ++ (ascii " " ++ decimal h.version.minor)))))))
