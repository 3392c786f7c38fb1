-- An end in parts, as the code keeps it, and the end that the rules speak of.
use Rattle.std.specs.Prelude.{ℕ, List}
use Rattle.endpoints.specs.declared.Endpoint.{Endpoint}
use Rattle.endpoints.specs.declared.Binding.{Binding}
use Rattle.icbmsg.specs.End.{End}
use Rattle.icbmsg.specs.declared.Numbers.{Numbers}
use Rattle.tables.specs.Compact.{table_of}

-- the end of these numbers, bytes of both tables, endpoints and bindings: its tables are the entries that the bytes stand for
abbrev pub joined : Numbers → List ℕ → List Endpoint → List Binding → End
joined n t ps bs =
    record {
      initiator = n.initiator;
      alignment = n.alignment;
      tx = n.tx;
      rx = n.rx;
      write = n.write;
      read = n.read;
      sent = table_of t 0;
      held = table_of t 1568;
      endpoints = ps;
      bindings = bs;
    }
