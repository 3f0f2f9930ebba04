-- What holds of all texts; the names of chunks, and the longest line, a second time.
use Rattle.std.specs.Prelude.{◌≡◌, ◌⊎◌, ℕ, List, codes, ◌++◌}
use Rattle.rtmfp_chunks.specs.Chunk.{Chunk, kind_of}
use Rattle.rtmfp_data_chunks.specs.Chunk.{DataChunk}
use Rattle.rtmfp_data_chunks.specs.Spelling.{kind_of as data_kind}
use Rattle.rtmfp_text.specs.KindText.{kind_text}
use Rattle.rtmfp_show.specs.ChunkText.{chunk_text}
use Rattle.rtmfp_show.specs.DataText.{data_text}
use Rattle.rtmfp_show.specs.ShowLine.{ShowsLine, show_limit}

abbrev pub EachLineHasOneText : Type 0
EachLineHasOneText = (line text other : List ℕ) → ShowsLine line text → ShowsLine line other →
    text ≡ other

-- a space and the name, and then nothing or a space and more
abbrev pub BeginsWith : List ℕ → List ℕ → Type 0
BeginsWith name text = (text ≡ codes " " ++ name) ⊎
    ((rest : List ℕ) × (text ≡ codes " " ++ (name ++ (codes " " ++ rest))))

-- the text of a chunk begins with the name of its type
pub record EachTextHasItsName : Type 0 where
  pub chunks : (chunk : Chunk) → BeginsWith (kind_text (kind_of chunk)) (chunk_text chunk)
  pub flows : (chunk : DataChunk) → BeginsWith (kind_text (data_kind chunk)) (data_text chunk)

-- the types and their names
pub record NamesOfTypes : Type 0 where
  pub ihello : kind_text 0x30 ≡ codes "ihello"
  pub fihello : kind_text 0x0f ≡ codes "fihello"
  pub rhello : kind_text 0x70 ≡ codes "rhello"
  pub redirect : kind_text 0x71 ≡ codes "redirect"
  pub cookiechange : kind_text 0x79 ≡ codes "cookiechange"
  pub iikeying : kind_text 0x38 ≡ codes "iikeying"
  pub rikeying : kind_text 0x78 ≡ codes "rikeying"
  pub ping : kind_text 0x01 ≡ codes "ping"
  pub pingreply : kind_text 0x41 ≡ codes "pingreply"
  pub close : kind_text 0x0c ≡ codes "close"
  pub closeack : kind_text 0x4c ≡ codes "closeack"
  pub fragment : kind_text 0x7f ≡ codes "fragment"
  pub user : kind_text 0x10 ≡ codes "data"
  pub next : kind_text 0x11 ≡ codes "next"
  pub probe : kind_text 0x18 ≡ codes "probe"
  pub ackbits : kind_text 0x50 ≡ codes "ackbits"
  pub ackranges : kind_text 0x51 ≡ codes "ackranges"
  pub exception : kind_text 0x5e ≡ codes "exception"

-- the longest line has 4,096 bytes
abbrev pub LongestLine : Type 0
LongestLine = show_limit ≡ 4096
