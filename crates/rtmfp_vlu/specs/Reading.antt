-- The same from left to right: which number bytes begin with, and how many bytes it takes.
use Rattle.std.specs.Prelude.{ℕ, zero, suc, ◌^◌, List, [], ◌∷◌, take, Result, Ok, Err, nat_lt, if◌then◌else◌}
use Rattle.rtmfp_vlu.specs.declared.reading.VluFault.{VluFault}
use Rattle.rtmfp_vlu.specs.declared.reading.VluFault.TheVariants.{Short, Large}
use Rattle.rtmfp_vlu.specs.Vlu.{value}

abbrev pub one_more : Result ℕ VluFault → Result ℕ VluFault
one_more (Ok n) = Ok (suc n)
one_more (Err fault) = Err fault

-- how many bytes there are up to the first one below 128, where at most so many may be read
unfoldable pub end_within : ℕ → List ℕ → Result ℕ VluFault
end_within zero bytes = Err Large
end_within (suc most) [] = Err Short
end_within (suc most) (b ∷ bs) = if nat_lt b 128 then Ok 1 else one_more (end_within most bs)

abbrev pub fitting : List ℕ → Result ℕ VluFault → Result (ℕ × ℕ) VluFault
fitting bytes (Ok n) = if nat_lt (value (take n bytes)) (2 ^ 64) then Ok (value (take n bytes), n)
    else Err Large
fitting bytes (Err fault) = Err fault

unfoldable pub number_at : List ℕ → Result (ℕ × ℕ) VluFault
number_at bytes = fitting bytes (end_within 10 bytes)
