mod FileUnits
