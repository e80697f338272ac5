-- What the next item of a list says.
use Rattle.t1_font.specs.declared.entry.Item.{Item}
use Rattle.t1_font.specs.declared.entry.Item.TheVariants as items
use Rattle.t1_font.specs.Values.{ListItem, ends, is_number, is_other}

abbrev pub item_view : Item → ListItem
item_view items.End = ends
item_view (items.Number z rest) = is_number z rest.now
item_view items.Other = is_other
