-- What the outcome of a record beneath the asked term tells of the asked term's (SPECIFICATION, "When a row is better"; codes
-- as in laws/specs/Codes.antt). Each record has a mask: Bits: the asked term's code has the bits of the record's; TurnedBits:
-- it has them with first and second better exchanged; All and TurnedAll: the same, and where the record's is not same, no others.
use Rattle.std.specs.Prelude.{Bool, true, false, cond, ◌&&◌, ◌||◌, ℕ, ◌+◌, ◌%◌, eqb, ltb}
use Rattle.std.specs.Int.Bits.{bit_or}
use Rattle.laws.specs.Codes.{turned_code}
use Rattle.plan.specs.declared.vetted.exit_masks.{Exit.Exit}
use Rattle.plan.specs.declared.vetted.exit_masks.Exit.TheVariants.{Nothing, Bits, TurnedBits, All, TurnedAll}

-- The mask that tells nothing.
abbrev pub is_nothing : Exit → Bool
is_nothing Nothing = true
is_nothing Bits = false
is_nothing TurnedBits = false
is_nothing All = false
is_nothing TurnedAll = false

-- ---- what a mask makes of a code

-- 4 more says that it is the whole code. Same says nothing.
unfoldable pub wholly_code : ℕ → ℕ
wholly_code c = cond (eqb c 0) 0 (c + 4)

-- What a record of this mask and code c tells.
unfoldable pub told_code : Exit → ℕ → ℕ
told_code Nothing c = 0
told_code Bits c = c
told_code TurnedBits c = turned_code c
told_code All c = wholly_code c
told_code TurnedAll c = wholly_code (turned_code c)

-- The bits of the code among it.
unfoldable pub bits : ℕ → ℕ
bits v = v % 4

-- Code a has no bits that w has not.
unfoldable pub within : ℕ → ℕ → Bool
within a w = eqb (bit_or a w) w

-- What is told is true of the asked term's code o.
unfoldable pub holds : ℕ → ℕ → Bool
holds v o = (ltb v 4 && within v o) || eqb v (o + 4)

-- ---- from a compound's mask to its parts'

-- Of the part of a DUAL.
abbrev pub turned_mask : Exit → Exit
turned_mask Nothing = Nothing
turned_mask Bits = TurnedBits
turned_mask TurnedBits = Bits
turned_mask All = TurnedAll
turned_mask TurnedAll = All

-- Of a part of a PARETO or BOTH.
abbrev pub part_mask : Exit → Exit
part_mask Nothing = Nothing
part_mask Bits = Bits
part_mask TurnedBits = TurnedBits
part_mask All = Bits
part_mask TurnedAll = TurnedBits

-- What is left to the PARETO or BOTH itself, whose parts tell its bits.
abbrev pub own_mask : Exit → Exit
own_mask Nothing = Nothing
own_mask Bits = Nothing
own_mask TurnedBits = Nothing
own_mask All = All
own_mask TurnedAll = TurnedAll

-- ---- masks as numbers

-- The number of a mask.
abbrev pub mask_number : Exit → ℕ
mask_number Nothing = 0
mask_number Bits = 1
mask_number TurnedBits = 2
mask_number All = 5
mask_number TurnedAll = 6

-- What a record of this mask and code c tells, by the mask's number m. A number of no mask tells nothing.
unfoldable pub told_by_number : ℕ → ℕ → ℕ
told_by_number m c =
    cond (eqb m 1) c (cond (eqb m 2) (turned_code c) (cond (eqb m 5) (wholly_code c) (cond (eqb m 6) (wholly_code (turned_code c)) 0)))

-- The mask of the part of a DUAL,
unfoldable pub turned_number : ℕ → ℕ
turned_number m = cond (eqb m 1) 2 (cond (eqb m 2) 1 (cond (eqb m 5) 6 (cond (eqb m 6) 5 0)))

-- that of a part of a PARETO or BOTH,
unfoldable pub part_number : ℕ → ℕ
part_number m = cond (eqb m 5) 1 (cond (eqb m 6) 2 m)

-- and what is left to the PARETO or BOTH itself.
unfoldable pub own_number : ℕ → ℕ
own_number m = cond (ltb m 4) 0 m
