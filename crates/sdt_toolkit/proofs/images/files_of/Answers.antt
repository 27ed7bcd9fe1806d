use Rattle.sdt_toolkit.proofs.images.files_of.Goals as goal

pub region_files-requires : goal.region_files-requires
region_files-requires c = c.requires.writable.regions

pub image_file-requires : goal.image_file-requires
image_file-requires c = c.requires.writable.regions

pub elf_file-requires : goal.elf_file-requires
elf_file-requires c =
    let counted = rw c.in-Elf.is at c.requires.writable.loads in
    counted
