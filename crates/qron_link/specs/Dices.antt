-- Dice: the words of each connection under a key, and where dice stand among them.
use Rattle.std.specs.Prelude.{ℕ, ◌+◌, ◌*◌, ◌^◌, List, slice_index}
use Rattle.rand_chacha.specs.ChaCha.{word_at, key_of}

-- the key, the connection begun last, and how many of its words were taken
pub record Drawn : Type 0 where
  pub key : List ℕ
  pub seat : ℕ
  pub serial : ℕ
  pub taken : ℕ

-- a list gives each connection its numbers, and 0 past the end
abbrev pub list_word : List ℕ → ℕ → ℕ → ℕ → ℕ
list_word list seat serial k = slice_index list k

-- the number of a connection's ChaCha20 stream
abbrev pub stream_number : ℕ → ℕ → ℕ
stream_number seat serial = seat * 2 ^ 32 + serial

-- the word of a stream's 32-bit words 2k and 2k + 1 under a seed, the low half first; ChaCha20 has ten double rounds
abbrev pub chacha_word : List ℕ → ℕ → ℕ → ℕ → ℕ
chacha_word seed seat serial k =
    word_at 10 (key_of seed) (stream_number seat serial) (2 * k)
    + word_at 10 (key_of seed) (stream_number seat serial) (2 * k + 1) * 2 ^ 32
