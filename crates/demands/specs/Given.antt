-- What a reply of Compare gives, and what "strictly" asks of replies, as tests (SPECIFICATION, "The third promise, word
-- by word"). No test holds of a refusal.
use Rattle.std.specs.Prelude.{Bool, not, ◌&&◌, ◌||◌, ℕ, ltb, eqb, Ok, Err}
use Rattle.model.specs.Words.{CompareReply}
use Rattle.model.specs.Replies.{outcome_number}

-- What a reply of Compare gives as a number; 4 where it refuses.
abbrev pub number_given : CompareReply → ℕ
number_given (Ok o) = outcome_number o
number_given (Err why) = 4

-- "x against x gives same": of the reply to x, x.
unfoldable pub gives_same : CompareReply → Bool
gives_same own = eqb (number_given own) 0

-- "Where x, y gives first better, y, x gives second better, and the other way about; same and unranked don't change when
-- the rows change places": of the replies to x, y and to y, x.
unfoldable pub gives_turned : CompareReply → CompareReply → Bool
gives_turned there back =
    let a = number_given there in
    let b = number_given back in
    eqb a 0 && eqb b 0 || eqb a 1 && eqb b 2 || eqb a 2 && eqb b 1 || eqb a 3 && eqb b 3

-- "Where x, y and y, z give first better, so does x, z": of the replies to x, y, to y, z and to x, z.
unfoldable pub gives_chained : CompareReply → CompareReply → CompareReply → Bool
gives_chained first second whole =
    let a = number_given first in
    let b = number_given second in
    let c = number_given whole in
    ltb a 4 && ltb b 4 && ltb c 4 && (not (eqb a 1 && eqb b 1) || eqb c 1)
