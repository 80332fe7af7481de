-- The frames of the alternating bit: what they carry, and how they are told apart. Assumes nothing.
use Rattle.std.specs.Prelude.{ℕ, ◌+◌, ◌*◌, ◌%◌, Bool, true, false, cond, Ok, Err, Result, ◌==◌, nat_le, nat_lt}
use Rattle.bit_post.specs.declared.frame.Frame.{Frame}
use Rattle.bit_post.specs.declared.frame.Frame.TheVariants.{Data, Acknowledgement}

abbrev pub bit_number : Bool → ℕ
bit_number false = 0
bit_number true = 1

-- a byte with the bit that it is sent with
abbrev pub data_frame : Bool → ℕ → ℕ
data_frame bit byte = byte + 256 * bit_number bit

-- an acknowledgement of a bit
abbrev pub acknowledgement : Bool → ℕ
acknowledgement bit = 512 + 256 * bit_number bit

-- the number that a frame travels as
abbrev pub frame_number : Frame → ℕ
frame_number (Data bit byte) = data_frame bit byte
frame_number (Acknowledgement bit) = acknowledgement bit

-- the bit and the byte of a data frame, which is below 512
abbrev pub bit_of : ℕ → Bool
bit_of frame = nat_le 256 frame

abbrev pub byte_of : ℕ → ℕ
byte_of frame = frame % 256

-- the frame that a number is, or the number, which is no frame's
abbrev pub frame_of : ℕ → Result Frame ℕ
frame_of n =
    cond (nat_lt n 512) (Ok (Data (bit_of n) (byte_of n)))
    (cond (n == acknowledgement false) (Ok (Acknowledgement false))
    (cond (n == acknowledgement true) (Ok (Acknowledgement true)) (Err n)))
