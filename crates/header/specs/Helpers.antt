-- What inner functions ensure. No rule uses it.
use Rattle.std.specs.Prelude.{ℕ, List, [], ◌∷◌}
use Rattle.octets.specs.declared.Endianness.TheVariants.{Little}
use Rattle.octets.specs.declared.PointerSize.{PointerSize}
use Rattle.octets.specs.Reader.{Reader}
use Rattle.header.specs.declared.FileFormat.{FileFormat}
use Rattle.header.specs.declared.FileFormat.TheVariants.{Legacy, New}
use Rattle.header.specs.Header.Part.{byte_order, version}
use Rattle.header.specs.Header.{HeaderBytes, parts_read}

-- how many bytes a version has
abbrev pub version_length : FileFormat → ℕ
version_length Legacy = 3
version_length New = 4

-- a header's last two parts, the order mark and the version; `u` are the unchecked bytes before them
unfoldable pub ordered : FileFormat → PointerSize → List ℕ → Reader HeaderBytes
unfolding parts_read
ordered f p u = parts_read (byte_order ∷ version (version_length f) ∷ []) (record { format = f; pointer = p; order = Little; unchecked = u; version = [] })
