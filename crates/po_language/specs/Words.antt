-- SPDX-License-Identifier: MIT
-- The words of a line, and the forms that a word may have.
use Rattle.std.specs.Prelude.{ℕ, ◌+◌, ◌*◌, ◌-◌, ◌^◌, ℤ, pos, neg_ℤ, Bool, true, false, not, ◌&&◌, ◌||◌, nat_le, nat_lt, ◌==◌, List, [], ◌∷◌, length, take, drop, slice_index, slice_range, Option, Some, None, if◌then◌else◌}
use Rattle.std.specs.Option.{option_and_then, option_map}
use Rattle.std.specs.Char.{is_ascii_digit, is_ascii_alphabetic, is_ascii_alphanumeric}
use Rattle.std.specs.List.{filter, slice_split, list_all, fold, prefix_len}

abbrev pub is_space : ℕ → Bool
is_space b = b == 32

abbrev pub is_word_byte : ℕ → Bool
is_word_byte b = not (b == 32)

abbrev pub has_bytes : List ℕ → Bool
has_bytes [] = false
has_bytes (b ∷ bs) = true

-- the runs of bytes other than spaces
abbrev pub words : List ℕ → List (List ℕ)
words line = filter has_bytes (slice_split is_space line)

-- what decimal digits say
abbrev pub digits_value : List ℕ → ℕ
digits_value digits = fold (λ n d. n * 10 + (d - 48)) 0 digits

-- the number of 64 bits that one to twenty digits write
abbrev pub number_of : List ℕ → Option ℕ
number_of word =
    if (nat_le 1 (length word) && nat_le (length word) 20) && (list_all is_ascii_digit word && nat_lt (digits_value word) (2 ^ 64))
    then Some (digits_value word)
    else None

abbrev pub is_name_byte : ℕ → Bool
is_name_byte b = is_ascii_alphanumeric b || b == 95

-- a letter, then letters, digits and underscores, together at most 32 bytes
abbrev pub is_name : List ℕ → Bool
is_name [] = false
is_name (b ∷ bs) = is_ascii_alphabetic b && nat_le (length bs) 31 && list_all is_name_byte bs

-- the number that one to ten digits write
abbrev pub magnitude_of : List ℕ → Option ℕ
magnitude_of word = if nat_le (length word) 10 then number_of word else None

-- the number as an integer of 32 bits, if they hold it
abbrev pub positive_of : ℕ → Option ℤ
positive_of n = if nat_le n 2147483647 then Some (pos n) else None

-- its negative as an integer of 32 bits, if they hold it
abbrev pub negative_of : ℕ → Option ℤ
negative_of n = if nat_le n 2147483648 then Some (neg_ℤ (pos n)) else None

-- the integer of 32 bits that one to ten digits write, or a minus and one to ten digits
abbrev pub index_of : List ℕ → Option ℤ
index_of [] = None
index_of (b ∷ bs) =
    if b == 45
    then option_and_then negative_of (magnitude_of bs)
    else option_and_then positive_of (magnitude_of (b ∷ bs))

abbrev pub is_before_index : ℕ → Bool
is_before_index b = not (b == 40)

-- what is between a first and a last parenthesis
abbrev pub bracketed : List ℕ → Option (List ℕ)
bracketed rest =
    if nat_le 2 (length rest) && (slice_index rest 0 == 40 && slice_index rest (length rest - 1) == 41)
    then Some (slice_range rest 1 (length rest - 1))
    else None

-- a name, and what follows it: nothing, or an index in parentheses
abbrev pub parts_with : List ℕ → List ℕ → Option (List ℕ × Option ℤ)
parts_with name [] = if is_name name then Some (name, None) else None
parts_with name (b ∷ bs) =
    if is_name name
    then option_map (λ i. (name, Some i)) (option_and_then index_of (bracketed (b ∷ bs)))
    else None

-- the name that the word begins with, and the index in parentheses after it
abbrev pub entry_parts : List ℕ → Option (List ℕ × Option ℤ)
entry_parts word = parts_with (take (prefix_len is_before_index word) word) (drop (prefix_len is_before_index word) word)
