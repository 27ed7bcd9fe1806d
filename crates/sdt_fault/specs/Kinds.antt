-- The words that reports show for kinds of defects. This project's. A table of words: the code has the same one.
use Rattle.std.specs.Prelude.{ℕ, List, codes}
use Rattle.sdt_fault.specs.declared.kinds.LineKind.{LineKind}
use Rattle.sdt_fault.specs.declared.kinds.LineKind.TheVariants as line
use Rattle.sdt_fault.specs.declared.kinds.FileKind.{FileKind}
use Rattle.sdt_fault.specs.declared.kinds.FileKind.TheVariants as file
use Rattle.sdt_fault.specs.declared.kinds.ScatterKind.{ScatterKind}
use Rattle.sdt_fault.specs.declared.kinds.ScatterKind.TheVariants as scatter
use Rattle.sdt_fault.specs.declared.kinds.Quantity.{Quantity}
use Rattle.sdt_fault.specs.declared.kinds.Quantity.TheVariants as quantity
use Rattle.sdt_fault.specs.declared.kinds.CommandKind.{CommandKind}
use Rattle.sdt_fault.specs.declared.kinds.CommandKind.TheVariants as command
use Rattle.sdt_fault.specs.declared.kinds.RecordKind.{RecordKind}
use Rattle.sdt_fault.specs.declared.kinds.RecordKind.TheVariants as record_kind

abbrev pub line_word : LineKind → List ℕ
line_word line.Syntax = codes "Syntax"
line_word line.UnknownWord = codes "UnknownWord"
line_word line.FloatingPoint = codes "FloatingPoint"
line_word line.BadOperand = codes "BadOperand"
line_word line.Constant = codes "Constant"
line_word line.Forward = codes "Forward"
line_word line.DuplicateName = codes "DuplicateName"
line_word line.WrongType = codes "WrongType"
line_word line.OutOfRange = codes "OutOfRange"
line_word line.Nesting = codes "Nesting"
line_word line.Assert = codes "Assert"
line_word line.NoArea = codes "NoArea"
line_word line.DivideByZero = codes "DivideByZero"
line_word line.TooDeep = codes "TooDeep"
line_word line.TooMany = codes "TooMany"

abbrev pub file_word : FileKind → List ℕ
file_word file.Truncated = codes "Truncated"
file_word file.Magic = codes "Magic"
file_word file.Count = codes "Count"
file_word file.Offset = codes "Offset"
file_word file.Size = codes "Size"
file_word file.Chunks = codes "Chunks"
file_word file.Short = codes "Short"
file_word file.Version = codes "Version"
file_word file.Strings = codes "Strings"
file_word file.Name = codes "Name"
file_word file.Repeated = codes "Repeated"
file_word file.Attribute = codes "Attribute"
file_word file.Alignment = codes "Alignment"
file_word file.Type1 = codes "Type1"
file_word file.Index = codes "Index"
file_word file.Area = codes "Area"
file_word file.Value = codes "Value"
file_word file.Entry = codes "Entry"
file_word file.Length = codes "Length"
file_word file.Compressed = codes "Compressed"
file_word file.Header = codes "Header"
file_word file.NotExecutable = codes "NotExecutable"
file_word file.Sizes = codes "Sizes"
file_word file.Mode = codes "Mode"
file_word file.Map = codes "Map"
file_word file.FixedBase = codes "FixedBase"
file_word file.Class = codes "Class"
file_word file.ElfType = codes "ElfType"
file_word file.Machine = codes "Machine"
file_word file.Headers = codes "Headers"
file_word file.Segment = codes "Segment"
file_word file.Overlap = codes "Overlap"

abbrev pub scatter_word : ScatterKind → List ℕ
scatter_word scatter.Syntax = codes "Syntax"
scatter_word scatter.Number = codes "Number"
scatter_word scatter.DuplicateName = codes "DuplicateName"
scatter_word scatter.Unaligned = codes "Unaligned"
scatter_word scatter.Empty = codes "Empty"
scatter_word scatter.TooMany = codes "TooMany"

abbrev pub quantity_word : Quantity → List ℕ
quantity_word quantity.SourceBytes = codes "SourceBytes"
quantity_word quantity.FileBytes = codes "FileBytes"
quantity_word quantity.ImageBytes = codes "ImageBytes"
quantity_word quantity.AifBytes = codes "AifBytes"
quantity_word quantity.Areas = codes "Areas"
quantity_word quantity.Symbols = codes "Symbols"
quantity_word quantity.MemoryBytes = codes "MemoryBytes"

abbrev pub command_word : CommandKind → List ℕ
command_word command.Syntax = codes "Syntax"
command_word command.Number = codes "Number"
command_word command.NoDevice = codes "NoDevice"

abbrev pub record_word : RecordKind → List ℕ
record_word record_kind.Syntax = codes "Syntax"
record_word record_kind.Length = codes "Length"
record_word record_kind.Sum = codes "Sum"
record_word record_kind.RecordType = codes "RecordType"
record_word record_kind.Address = codes "Address"
record_word record_kind.Repeated = codes "Repeated"
record_word record_kind.Order = codes "Order"
