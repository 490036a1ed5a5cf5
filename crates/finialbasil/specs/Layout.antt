-- How a reply is laid out for C (bindings/c/finialbasil.h): what the specification lists for it, field by field.
use Rattle.std.specs.Prelude.{ℕ, get_or, Option, Some, None}
use Rattle.model.specs.Replies.{Listing}
use Rattle.finialbasil.specs.declared.c_replies.{FnbCheckReply.FnbCheckReply, FnbReply.FnbReply}

-- The record that a refusal names, or FNB_NO_PLACE.
abbrev pub place_number : Option ℕ → ℕ
place_number None = 4294967295
place_number (Some k) = k

-- The refusal's number (0: none) and place, then the values that Check gives, in the document's order: number of
-- records, top, columns read by the top, how many. A refusal gives no values: they are 0.
unfoldable pub check_fields : Listing → FnbCheckReply
check_fields listing =
    record {
      refusal = listing.number;
      place = place_number listing.place;
      records = get_or listing.values 0 0;
      top = get_or listing.values 1 0;
      columns = get_or listing.values 2 0;
      column_count = get_or listing.values 3 0;
    }

-- The refusal's number and place, and the one value that the other calls give; 0 on a refusal.
unfoldable pub reply_fields : Listing → FnbReply
reply_fields listing =
    record {
      refusal = listing.number;
      place = place_number listing.place;
      value = get_or listing.values 0 0;
    }
