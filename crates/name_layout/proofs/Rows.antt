-- By computing.
-- Assumes nothing.
use mathlib.Core.Path.{refl}
use Rattle.bigendian.specs.Numbers.{number}
use Rattle.name_layout.specs.Layout.{tag_count, tags_at, bytes_of}
use Rattle.name_layout.specs.Examples.{ReadsEach}

pub reads_each : ReadsEach
unfolding number tag_count tags_at bytes_of
reads_each =
    record { first = refl; key_0 = refl; key_1 = refl; record_0 = refl; record_1 = refl; packed_1 = refl; text_0 = refl; text_1 = refl; bytes_0 = refl; bytes_1 = refl; tag_0 = refl; tag_1 = refl }
