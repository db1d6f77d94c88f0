-- An image that C keeps for its types.
--     table_kept kept     its types
--     table_of image      the same, if there is a kept image
--     types_in reader     the types that a call reads an image with
use Rattle.std.specs.Prelude.{Option, option_map}
use Rattle.seg_spec.specs.Types.{Table}
use Rattle.lezgauri.specs.Images.{types_of}
use Rattle.lezgauri_c.specs.declared.kept_image.KeptImage.{KeptImage}
use Rattle.lezgauri_c.specs.declared.reader.Reader.{Reader}

abbrev pub table_kept : KeptImage → Table
table_kept kept = types_of kept.image

abbrev pub table_of : Option KeptImage → Option Table
table_of image = option_map table_kept image

abbrev pub types_in : Reader → Table
types_in reader = table_kept reader.kept.now
