-- The three nodes that meet, and the words that each is started with.
use Rattle.std.specs.Prelude.{ℕ, ◌+◌, List, [], ◌∷◌, ◌++◌, codes, decimal, replicate}
use Rattle.std.specs.List.{flat_map}
use Rattle.hex.specs.Hex.{encode_lower}
use Rattle.sha2.specs.Sha256.{sha256}
use Rattle.rtmfp_lines.specs.Lines.{lines_of}
use Rattle.rtmfp_meet.specs.declared.node.Node.{Node}
use Rattle.rtmfp_meet.specs.declared.node.Node.TheVariants.{Introducer, Answerer, Caller}

-- ---- certificates

abbrev pub name_of : Node → List ℕ
name_of Introducer = codes "introducer"
name_of Answerer = codes "answerer"
name_of Caller = codes "caller"

-- the instance bytes, and their digits
abbrev pub instance_of : Node → List ℕ
instance_of Introducer = replicate 16 0x11
instance_of Answerer = replicate 16 0x22
instance_of Caller = replicate 16 0x33

abbrev pub digits_of : Node → List ℕ
digits_of Introducer = replicate 32 49
digits_of Answerer = replicate 32 50
digits_of Caller = replicate 32 51

-- the instance bytes and the name
abbrev pub certificate_of : Node → List ℕ
certificate_of node = instance_of node ++ name_of node

-- the fingerprint of the certificate
unfoldable pub print_of : Node → List ℕ
print_of node = sha256 (certificate_of node)

-- ---- words

-- this machine, at a port
unfoldable pub place : ℕ → List ℕ
place port = codes "127.0.0.1:" ++ decimal port

-- whom to call, and at which port
unfoldable pub opening : Node → ℕ → List ℕ
opening node port = encode_lower (print_of node) ++ (codes "@" ++ place port)

-- the secret of their group, 32 bytes of 0 in digits
abbrev pub group : List ℕ
group = replicate 64 48

-- The three take ports that follow each other, and as many turns.
abbrev pub words_of : Node → ℕ → ℕ → List (List ℕ)
words_of Introducer port turns =
    codes "serve" ∷ place port ∷ group ∷ codes "introducer" ∷ codes "--turns" ∷ decimal turns ∷
    codes "--introduce" ∷ codes "--instance" ∷ replicate 32 49 ∷ []
words_of Answerer port turns =
    codes "serve" ∷ place (port + 1) ∷ group ∷ codes "answerer" ∷ codes "--turns" ∷ decimal turns ∷
    codes "--instance" ∷ replicate 32 50 ∷ opening Introducer port ∷ []
words_of Caller port turns =
    codes "serve" ∷ place (port + 2) ∷ group ∷ codes "caller" ∷ codes "--turns" ∷ decimal turns ∷
    codes "--instance" ∷ replicate 32 51 ∷ codes "--send" ∷ codes "68656c6c6f" ∷
    opening Answerer port ∷ []

-- ---- what is written of what they wrote

abbrev pub prefix_of : Node → List ℕ
prefix_of Introducer = codes "i "
prefix_of Answerer = codes "b "
prefix_of Caller = codes "a "

-- each line behind this, and LF behind it
abbrev pub behind : List ℕ → List (List ℕ) → List ℕ
behind prefix lines = flat_map (λ line. prefix ++ (line ++ codes "\n")) lines

-- the lines of a node's text, with its letter
abbrev pub marked : Node → List ℕ → List ℕ
marked node text = behind (prefix_of node) (lines_of text)
