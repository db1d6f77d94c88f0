-- A client file, part by part: header, types, constants and code. Grammar (client_spec) defines the
-- whole file.
--     code_place client                                the position of the code
--     IsFileVersion version                            files may have this version
--     IsFileHeader file types constants instructions   the header has these counts
--     AreHeaderWordsRight file place                   the header's fields before a position
--                                                      are right
--     AreTypes file table                              these types come after the header
--     AreConstants file at constants following         these constants are at a position, and
--                                                      the rest of the file at `following`
--     IsCodeAt file at table constants code            this code is at a position, and ends the
--                                                      file
use Rattle.std.specs.Prelude.{◌≡◌, ℕ, ◌+◌, ◌*◌, ◌≤◌, List, ◌++◌, length, take, drop, flat_map, codes, All, AllPairs}
use Rattle.seg_spec.specs.Bytes as bytes
use Rattle.seg_spec.specs.Header.{sharing_version}
use Rattle.seg_spec.specs.Types.{Table, IsTable, form_bytes}
use Rattle.client_spec.specs.Syntax.{Constant, Statements, Client}
use Rattle.client_spec.specs.Grammar.{constant_bytes, instruction_bytes, listing, IsConstant, Differ, IsCode, depth}

abbrev pub code_place : Client → ℕ
code_place client =
    20 + 16 * length client.types + length (flat_map constant_bytes client.constants)

-- files may have this version; a client's file has the version that its types need
abbrev pub IsFileVersion : ℕ → Type 0
IsFileVersion version = (1 ≤ version) × (version ≤ sharing_version)

pub record IsFileHeader (file : List ℕ) (types constants instructions : ℕ) : Type 0 where
  pub whole : 20 ≤ length file
  pub magic : take 4 file ≡ codes "SEGC"
  pub version : IsFileVersion (bytes.word file 4)
  pub of_types : bytes.word file 8 ≡ types
  pub of_constants : bytes.word file 12 ≡ constants
  pub of_instructions : bytes.word file 16 ≡ instructions

pub record AreHeaderWordsRight (file : List ℕ) (place : ℕ) : Type 0 where
  pub magic : 4 ≤ place → take 4 file ≡ codes "SEGC"
  pub version : 8 ≤ place → (8 ≤ length file) × IsFileVersion (bytes.word file 4)
  pub of_types : 12 ≤ place → (12 ≤ length file) × (bytes.word file 8 ≤ 32)
  pub of_constants : 16 ≤ place → (16 ≤ length file) × (bytes.word file 12 ≤ 256)
  pub of_instructions : 20 ≤ place → (20 ≤ length file) × (bytes.word file 16 ≤ 4096)

pub record AreConstants (file : List ℕ) (at : ℕ) (constants : List Constant)
    (following : ℕ) : Type 0 where
  pub spelled : drop at file ≡ flat_map constant_bytes constants ++ drop following file
  pub place : following ≡ at + length (flat_map constant_bytes constants)
  pub each : All IsConstant constants
  pub different : AllPairs Differ constants

-- these types come after the header
pub record AreTypes (file : List ℕ) (table : Table) : Type 0 where
  pub valid : IsTable table
  pub whole : 20 + 16 * length table ≤ length file
  pub spelled : bytes.slice file 20 (16 * length table) ≡ flat_map form_bytes table

-- this code is at the position, and ends the file
pub record IsCodeAt (file : List ℕ) (at : ℕ) (table : Table) (constants : List Constant)
    (code : Statements) : Type 0 where
  pub right : IsCode table constants code
  pub shallow : depth code ≤ 8
  pub spelled : drop at file ≡ flat_map instruction_bytes (listing code)
  pub ends : length file ≡ at + 8 * length (listing code)
