-- A line's number and a root's entries.
use Rattle.std.proofs.Common.{string_bytes}
use Rattle.notation.proofs.Shows.{never_refused, root_written}
use Rattle.notation.proofs.showing.Writer.head.Goals as goal

pub unreachable-requires : goal.unreachable-requires
unreachable-requires c = never_refused c.args.self.now.left.now _ c.requires c.in_default.ensures.opening

pub returns-in_ok-push_str-in-Root-2 : goal.returns-in_ok-push_str-in-Root-2
returns-in_ok-push_str-in-Root-2 c =
    root_written c.args.self.now.left.now (string_bytes c.args.self.now.text) (string_bytes c.push_str-in-Root.new.self) (string_bytes c.push_entries.new.text) (string_bytes c.push_str-in-Root-2.new.self) c.in-Ok.item c.in-Root.count c.in-Root.entries c.in-Root.branches
    c.in-Root.is c.in-Ok.ensures.opening c.in_ok-push_str-in-Root.ensures.bytes c.in_ok-push_entries-in-Root.ensures c.in_ok-push_str-in-Root-2.ensures.bytes
