-- What an entry and an item of a list say.
use Rattle.t1_font.specs.declared.entry.Entry.{Entry}
use Rattle.t1_font.specs.declared.entry.Entry.TheVariants.{Absent, Number, Numbers, Other}
use Rattle.t1_font.specs.Values.{Value, absent, number, numbers, other}

abbrev pub entry_view : Entry → Value
entry_view Absent = absent
entry_view (Number z) = number z
entry_view (Numbers count first) = numbers count first.items
entry_view Other = other
