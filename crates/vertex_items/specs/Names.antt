-- The items of a node's input, as values of a reduce.
use Rattle.std.specs.Prelude.{◌≡◌, refl}
use Rattle.lone_work.specs.Items.{Item}
use Rattle.work_theory.specs.Once.{IsNaming}
use Rattle.vertex_items.specs.declared.item.NodeItem.{NodeItem}
use Rattle.vertex_items.specs.declared.item.NodeItem.TheVariants.{Start, Own, Message}

abbrev pub named : Item → NodeItem
named (Item.start a) = Start a
named (Item.own a) = Own a
named (Item.message a) = Message a

abbrev pub item_named : NodeItem → Item
item_named (Start a) = Item.start a
item_named (Own a) = Item.own a
item_named (Message a) = Item.message a

named_back : (x : NodeItem) → named (item_named x) ≡ x
named_back (Start a) = refl
named_back (Own a) = refl
named_back (Message a) = refl

named_forth : (i : Item) → item_named (named i) ≡ i
named_forth (Item.start a) = refl
named_forth (Item.own a) = refl
named_forth (Item.message a) = refl

-- each value is one item, and each item one value
pub names : IsNaming named item_named
names = record { back = named_back; forth = named_forth }
