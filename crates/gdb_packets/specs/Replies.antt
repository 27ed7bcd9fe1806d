-- The answers to questions that have one. gdb's manual, "Remote Serial Protocol", General Query Packets.
use Rattle.std.specs.Prelude.{ℕ, List, codes}
use Rattle.gdb_packets.specs.declared.request.Query.{Query}
use Rattle.gdb_packets.specs.declared.request.Query.TheVariants.{Supported, Actions, Thread, CurrentThread, FirstThreads, MoreThreads, Attached, Offsets}

abbrev pub reply_to : Query → List ℕ
reply_to Supported = codes "PacketSize=10000;qXfer:features:read+;swbreak+;hwbreak+;vContSupported+;QStartNoAckMode+"
reply_to Actions = codes "vCont;c;C;s;S"
reply_to Thread = codes "OK"
reply_to CurrentThread = codes "QC1"
reply_to FirstThreads = codes "m1"
reply_to MoreThreads = codes "l"
reply_to Attached = codes "0"
reply_to Offsets = codes "Text=0;Data=0;Bss=0"
